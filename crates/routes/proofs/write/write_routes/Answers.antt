-- `routes::write::write_routes` meets its contract: the routes are laid where there is room for them. Assumes nothing.
use Rattle.routes.proofs.Answering.{written_room, written_so, written_bytes}
use Rattle.routes.proofs.write.write_routes.Goals as goal

pub lay_routes-requires : goal.lay_routes-requires
lay_routes-requires c = written_room _ _ _ _ c.size-count.ensures c.if-lent-bytes.false

pub returns-clause-answer : goal.returns-clause-answer
returns-clause-answer c = written_so c.args.flow c.args.receiver _ _ c.size-count.ensures c.if-lent-bytes.false

pub returns-clause-bytes : goal.returns-clause-bytes
returns-clause-bytes c = written_bytes _ _ _ _ c.size-count.ensures c.if-lent-bytes.false _ c.lay_routes.ensures
