use Rattle.std.proofs.Common.{◌≡◌, ◌∙◌, ◌-◌, ◌<◌, ◌≤◌, ◌++◌, length, drop, ap, sym, subst, arith}
use Rattle.std.specs.List.{flat_map}
use Rattle.mc_proto.proofs.UncutLemmas.{end_passed, flat_push, step_coming, step_fits, stepped}
use Rattle.mc_proto.proofs.uncut.Uncut.pass.Goals as goal

pub returns-clause-passed : goal.returns-clause-passed
returns-clause-passed c =
    let at = c.loop-self in
    let u = c.loop-self.self-inside in
    end_passed (flat_map (λ p. p.items) u.done.items) u.piece.items (flat_map (λ p. p.items) u.rest.items) u.begin u.at at.left at.invariant.begins at.invariant.within (omega arith) ∙ at.invariant.passed

pub loop-self-preserved : goal.loop-self-preserved
loop-self-preserved c =
    let at = c.loop-self in
    let u = c.loop-self.self-inside in
    let done = flat_map (λ p. p.items) c.loop-self.self-inside.done.items in
    let rest = flat_map (λ p. p.items) c.loop-self.self-inside.rest.items in
    let left_over = flat_map (λ p. p.items) c.next_of.new.pieces.items in
    let none : c.replace-begin.new.dest ≡ 0 = c.replace-begin.ensures.after in
    let len : c.len-in-loop-self.result ≡ length c.loop-self.self-inside.piece.items = omega (arith, c.len-in-loop-self.ensures) in
    let part : c.in_ok-piece_from.field-0.items ≡ drop c.loop-self.self-inside.begin c.loop-self.self-inside.piece.items =
    c.in_ok-piece_from.ensures ∙ ap (λ v. drop c.replace-begin.result v.items) c.replace-piece.ensures.value ∙ ap (λ n. drop n c.loop-self.self-inside.piece.items) c.replace-begin.ensures.value in
    let split : rest ≡ c.replace-piece.new.dest.items ++ left_over = c.next_of.ensures.all ∙ ap (λ v. v.items ++ flat_map (λ p. p.items) c.next_of.new.pieces.items) (sym c.replace-piece.ensures.after) in
    let far : length c.loop-self.self-inside.piece.items - c.loop-self.self-inside.at < c.loop-self.left = omega arith in
    let pushed = flat_push (λ p. p.items) u.done.items c.push_back.new.self.items c.in_ok-piece_from.field-0 c.in_ok-push_back.ensures.items in
    record {
      begins = omega arith;
      within = omega arith;
      fits = subst (λ n. at.left - (n - u.at) ≤ length (c.replace-piece.new.dest.items ++ left_over)) (sym len)
          (step_fits done u.piece.items c.in_ok-piece_from.field-0.items c.replace-piece.new.dest.items rest left_over u.begin u.at at.left at.invariant.begins at.invariant.within part split far at.invariant.fits);
      passed = stepped done (flat_map (λ p. p.items) c.push_back.new.self.items) u.piece.items c.in_ok-piece_from.field-0.items c.replace-piece.new.dest.items
          rest left_over u.begin c.replace-begin.new.dest u.at at.left c.len-in-loop-self.result pushed none len at.invariant.begins at.invariant.within part
          split (omega arith)
          ∙ at.invariant.passed;
      coming = ap (λ n. drop (at.left - (n - u.at)) (c.replace-piece.new.dest.items ++ left_over)) len
          ∙ step_coming done u.piece.items c.in_ok-piece_from.field-0.items c.replace-piece.new.dest.items rest left_over u.begin u.at at.left at.invariant.begins at.invariant.within part split far ∙ at.invariant.coming;
    }
