use Rattle.mc_item.specs.Command.{key_of}
use Rattle.mc_store.proofs.NeededClassLemmas.{dead_class}
use Rattle.mc_store.proofs.answering.bury.Goals as goal

pub lock_class-guard-requires : goal.lock_class-guard-requires
lock_class-guard-requires g c = dead_class g.N.Named.board.table g.N.Named.config c.args.own.now c.law.ensures (key_of c.args.task.command.now) c.args.task.turn.moment c.args.link c.requires.dead
