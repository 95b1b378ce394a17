use Rattle.layout.proofs.CursorLaws.{next_there, next_end}
use Rattle.layout.proofs.cursor.next_at.Goals as goal

pub returns-then-m-rest : goal.returns-then-m-rest
returns-then-m-rest c = next_there _ _ _ _ c.part_from-rest.ensures c.find-m.ensures c.if-m-rest.true

pub returns-else-m-rest : goal.returns-else-m-rest
returns-else-m-rest c = next_end _ _ _ _ c.part_from-rest.ensures c.find-m.ensures c.if-m-rest.false
