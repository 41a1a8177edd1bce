use Rattle.std.proofs.Common.{arith}
use Rattle.mc_proto.proofs.TokenLemmas.{first_token}
use Rattle.mc_proto.proofs.token.next_token.Goals as goal

pub returns-else-end-eq0 : goal.returns-else-end-eq0
returns-else-end-eq0 c =
    let b = c.spaces_end-begin in
    let e = c.token_end-end in
    let s = c.split_at in
    let l = c.split_at-else-end-eq0 in
    first_token c.args.line.now s.result.1.now l.result.0.now l.result.1.now b.result e.result b.ensures.within b.ensures.before s.ensures.back e.ensures.within
    e.ensures.before e.ensures.found (omega arith) l.ensures.front l.ensures.back
