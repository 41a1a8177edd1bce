use Rattle.mc_proto.proofs.KeptRestLemmas.{after_named}
use Rattle.mc_proto.proofs.reader.Reader.end.Goals as goal

pub returns-clause-rest : goal.returns-clause-rest
returns-clause-rest c = λ stream requests a. after_named c.args.self.limits c.args.self.state c.args.self.unread stream requests c.name.result c.name.ensures a
