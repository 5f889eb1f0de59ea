use Rattle.answering.proofs.Lining.{lined}
use Rattle.answering.proofs.responses.respond.Goals as goal

pub returns-clause-responds : goal.returns-clause-responds
returns-clause-responds g c =
    let answered = c.answer.ensures in
    (answered.performed, lined answered.long answered.front answered.rest c.if-line-lt-ROOM.false)
