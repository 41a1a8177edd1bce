use Rattle.std.proofs.Common.{length-append, arith}
use Rattle.std.specs.Prelude.{Vec}
use Rattle.std.specs.{List.flat_map, declared.alloc.Global.Global}
use Rattle.mc_history.proofs.PieceLemmas.{length_of_full}
use Rattle.mc_history.proofs.pieces.Pieces.len.Goals as goal

pub returns-clause-value : goal.returns-clause-value
returns-clause-value g c =
    let full = length_of_full (λ (p : Vec _ Global). p.items) 4096 c.args.self.now.full.items c.requires.kept.sound.full in
    let events = length-append (flat_map (λ (p : Vec _ Global). p.items) c.args.self.now.full.items) c.args.self.now.last.items in
    omega (arith, full, events, c.len.ensures, c.len-2.ensures, c.args.self.now.full.ok, c.args.self.now.last.ok)
