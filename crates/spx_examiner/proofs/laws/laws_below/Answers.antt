use Rattle.spx_examiner.proofs.laws.laws_below.Goals as goal

pub returns : goal.returns
returns c = record {
  spelling = c.one_spelling.ensures;
  stop = record { unspelled = c.one_stop.ensures.unspelled; cause = c.one_stop.ensures.cause; place = c.one_stop.ensures.place };
  answer = c.one_answer.ensures;
  tree = c.one_tree.ensures;
  program = c.one_program.ensures;
  breach = c.name_breaches.ensures.kept;
  obeyed = λ p obeys. (c.rule_breaches.ensures p).1 obeys;
  lines = c.one_list_of_flow_lines.ensures;
  inputs = c.one_reading.ensures;
}
