use Rattle.spx_examples.proofs.Stopped as stopped
use Rattle.spx_examples.proofs.text_laws.texts_are_stopped.Goals as goal

pub returns-clause-spoiled : goal.returns-clause-spoiled
returns-clause-spoiled c = stopped.number_is_spoiled

pub returns-clause-wide : goal.returns-clause-wide
returns-clause-wide c = stopped.number_is_too_wide

pub returns-clause-widest : goal.returns-clause-widest
returns-clause-widest c = stopped.widest_is_spelled

pub returns-clause-unnamed_spelled : goal.returns-clause-unnamed_spelled
returns-clause-unnamed_spelled c = stopped.unnamed_spelled

pub returns-clause-unnamed_answer : goal.returns-clause-unnamed_answer
returns-clause-unnamed_answer c = stopped.unnamed_answer

pub returns-clause-unnamed_place : goal.returns-clause-unnamed_place
returns-clause-unnamed_place c = stopped.unnamed_place

pub returns-clause-cut_short_spelled : goal.returns-clause-cut_short_spelled
returns-clause-cut_short_spelled c = stopped.cut_short_spelled

pub returns-clause-cut_short_answer : goal.returns-clause-cut_short_answer
returns-clause-cut_short_answer c = stopped.cut_short_answer

pub returns-clause-cut_short_place : goal.returns-clause-cut_short_place
returns-clause-cut_short_place c = stopped.cut_short_place
