use Rattle.std.proofs.Common.{◌≡◌, ◌<◌, ◌∙◌, length, take, ap, arith, subst}
use Rattle.std.proofs.lemmas.List.{take_all}
use Rattle.mc_proto.specs.{Lines.Lacks, Table.says}
use Rattle.mc_proto.proofs.FirstLineLemmas.{long_asked, more_asked, next_asked, plain_asked}
use Rattle.mc_proto.proofs.splitting.line_first.Goals as goal

pub returns-then-end-gt-MAX_LINE : goal.returns-then-end-gt-MAX_LINE
returns-then-end-gt-MAX_LINE c = λ more.
    let e = c.line_end-end in
    long_asked c.args.limits c.args.bytes.now more e.result e.ensures.within e.ensures.before c.if-end-gt-MAX_LINE.true

pub returns-then-end-bytes : goal.returns-then-end-bytes
returns-then-end-bytes c =
    let e = c.line_end-end in
    (subst (Lacks 10) (take_all e.result c.args.bytes.now (omega arith)) e.ensures.before, omega arith)

pub returns-then-is_plain : goal.returns-then-is_plain
returns-then-is_plain c = λ more.
    let e = c.line_end-end in
    let l : c.line_end-end.result < length c.args.bytes.now = omega arith in
    plain_asked c.args.limits c.args.bytes.now more e.result l (e.ensures.found l) e.ensures.before (omega arith) (c.is_plain.ensures c.if-is_plain.true)

pub returns-then-says_next : goal.returns-then-says_next
returns-then-says_next c = λ more.
    let e = c.line_end-end in
    let l : c.line_end-end.result < length c.args.bytes.now = omega arith in
    let told : c.in_ok-said.said ≡ says c.args.limits (take c.line_end-end.result c.args.bytes.now) = c.in_ok-said.ensures.value ∙ ap (says c.args.limits) c.split_at.ensures.front in
    next_asked c.args.limits c.args.bytes.now more e.result l (e.ensures.found l) e.ensures.before (omega arith) c.block_len.result c.in_ok-said.said told c.block_len.ensures c.if-says_next.ensures

pub returns : goal.returns
returns c = λ more.
    let e = c.line_end-end in
    let l : c.line_end-end.result < length c.args.bytes.now = omega arith in
    let told : c.in_ok-said.said ≡ says c.args.limits (take c.line_end-end.result c.args.bytes.now) = c.in_ok-said.ensures.value ∙ ap (says c.args.limits) c.split_at.ensures.front in
    more_asked c.args.limits c.args.bytes.now more e.result l (e.ensures.found l) e.ensures.before (omega arith) c.block_len.result c.in_ok-said.said told
    c.in_ok-said.ensures.fine c.block_len.ensures c.if-says_next.ensures
