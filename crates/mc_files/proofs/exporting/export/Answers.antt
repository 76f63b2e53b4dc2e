use Rattle.mc_core.proofs.Keeps.{continues_more}
use Rattle.mc_files.proofs.exporting.export.Goals as goal

pub returns-in-Ok-add_sections-clause-keeps : goal.returns-in-Ok-add_sections-clause-keeps
returns-in-Ok-add_sections-clause-keeps g c = continues_more c.in-Ok.ensures.keeps c.in-Ok-add_sections.ensures.keeps

pub returns-clause-keeps : goal.returns-clause-keeps
returns-clause-keeps g c = continues_more c.in-Ok.ensures.keeps c.in-Err-add_sections.ensures.keeps
