use Rattle.std.proofs.Common.{◌≡◌, ◌++◌, ◌∙◌, OnOk, codes, subst}
use Rattle.mc_script.specs.ReplyText.{pair_line}
use Rattle.mc_script.proofs.reply.write_clash.Goals as goal

pub returns-clause-ok : goal.returns-clause-ok
returns-clause-ok c = subst (λ text. OnOk c.write_pair.result (c.write_pair.new.out ≡ c.args.out.now ++ pair_line (codes "refused clash") text)) (c.as_str.ensures ∙ c.in_ok-cid.ensures) c.write_pair.ensures.ok
