use Rattle.mc_key.proofs.RuleFacts.{key_without_fault, no_fault_of_key}
use Rattle.mc_key.proofs.key.keys_have_no_fault.Goals as goal

pub returns : goal.returns
returns c text = (key_without_fault text, no_fault_of_key text)
