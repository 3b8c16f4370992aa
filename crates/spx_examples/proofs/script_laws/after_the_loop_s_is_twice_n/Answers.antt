use Rattle.spx_examples.proofs.ScriptLoop.{after_loop_valid}
use Rattle.spx_examples.proofs.script_laws.after_the_loop_s_is_twice_n.Goals as goal

pub returns : goal.returns
returns c = after_loop_valid
