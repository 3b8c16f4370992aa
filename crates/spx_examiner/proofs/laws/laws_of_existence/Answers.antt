use Rattle.spx_examiner.proofs.laws.laws_of_existence.Goals as goal

pub returns : goal.returns
returns c = record {
  spelling = c.some_spelling.ensures;
  answer = c.some_answer.ensures;
  program = c.name_breaches.ensures.none;
  obeyed = λ p none. (c.rule_breaches.ensures p).0 none;
  lines = c.some_list_of_flow_lines.ensures;
  inputs = c.some_reading.ensures;
}
