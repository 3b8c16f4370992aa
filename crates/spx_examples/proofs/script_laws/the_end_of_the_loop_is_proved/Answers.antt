use Rattle.spx_examples.proofs.ScriptLoop.{loop_steps}
use Rattle.spx_examples.proofs.script_laws.the_end_of_the_loop_is_proved.Goals as goal

pub returns : goal.returns
returns c = record {
  split = loop_steps.split;
  at_most = loop_steps.at_most;
  at_least = loop_steps.at_least;
}
