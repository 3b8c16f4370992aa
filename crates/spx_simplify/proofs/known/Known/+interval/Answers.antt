use Rattle.spx_simplify.proofs.Places.{keeps_twice, gives_made}
use Rattle.spx_simplify.proofs.known.Known.+interval.Goals as goal

pub make-requires-in-Infix-clause-ready : goal.make-requires-in-Infix-clause-ready
make-requires-in-Infix-clause-ready t c =
    let right = c.in_ok-interval-in-Infix-2.ensures in
    (right.keeps.kept c.in-Infix.left (gives_made c.in_ok-interval-in-Infix.ensures.gives), gives_made right.gives)

pub returns-in_ok-interval-in-Prefix-2-clause-keeps : goal.returns-in_ok-interval-in-Prefix-2-clause-keeps
returns-in_ok-interval-in-Prefix-2-clause-keeps t c =
    keeps_twice c.in_ok-interval-in-Prefix.ensures.keeps c.in_ok-interval-in-Prefix-2.ensures.keeps

pub returns-in_ok-interval-in-Infix-3-clause-keeps : goal.returns-in_ok-interval-in-Infix-3-clause-keeps
returns-in_ok-interval-in-Infix-3-clause-keeps t c =
    keeps_twice (keeps_twice c.in_ok-interval-in-Infix.ensures.keeps c.in_ok-interval-in-Infix-2.ensures.keeps) c.in_ok-interval-in-Infix-3.ensures.keeps

pub returns-in_ok-interval-in-Unary-2-clause-keeps : goal.returns-in_ok-interval-in-Unary-2-clause-keeps
returns-in_ok-interval-in-Unary-2-clause-keeps t c =
    keeps_twice c.in_ok-interval-in-Unary.ensures.keeps c.in_ok-interval-in-Unary-2.ensures.keeps

pub returns-in_ok-interval-in-Binary-2-clause-keeps : goal.returns-in_ok-interval-in-Binary-2-clause-keeps
returns-in_ok-interval-in-Binary-2-clause-keeps t c =
    keeps_twice c.in_ok-interval-in-Binary.ensures.keeps c.in_ok-interval-in-Binary-2.ensures.keeps
