-- The ends of a conversation: what came and was written from one state to a later one (own).
use Rattle.std.specs.Prelude.{ℕ, ◌≡◌, ◌≤◌, List, [], ◌++◌, Option, length}
use Rattle.std.specs.{Global.Vec, List.flat_map, Io.KnownBytes.Appends, Io.KnownBytes.Consumes}
use Rattle.std.proofs.Common.{refl, ◌∙◌, ap, sym, arith, append_assoc, append-nil}
use Rattle.std.proofs.KnownBytes.{Appends-nil, Appends-trans, Consumes-nil, Consumes-trans}
use Rattle.mc_proto.specs.Gathered.{Gathered}
use Rattle.mc_driver.specs.declared.live.Live.{Live}

-- all bytes of these pieces, in order
abbrev pub came_in : List (Vec ℕ) → List ℕ
came_in pieces = flat_map (λ piece. piece.items) pieces

-- all bytes of these texts, in order
abbrev pub written_in : List Gathered → List ℕ
written_in texts = flat_map (λ text. text.items) texts

module _ {R W : Type 0} (remaining : R → Option (List ℕ)) (contents : W → Option (List ℕ)) where
  -- between two states of the same ends these bytes came from the reader, and as long as no write failed, the texts that were
  -- put were written to the writer
  pub record IsLater (first second : Live R W) (came : List ℕ) : Type 0 where
    pub reader : second.reader.ghost_name ≡ first.reader.ghost_name
    pub writer : second.writer.ghost_name ≡ first.writer.ghost_name
    pub limits : second.limits.value ≡ first.limits.value
    pub came_is : came_in second.came ≡ came_in first.came ++ came
    pub consumed : Consumes (remaining first.reader.now) (remaining second.reader.now) came
    pub written : List ℕ
    pub put_is : written_in second.put ≡ written_in first.put ++ written
    pub rising : length first.faults ≤ length second.faults
    pub wrote : length second.faults ≡ length first.faults → Appends (contents first.writer.now) (contents second.writer.now) written

  -- between a state and itself nothing came
  pub later_stays : (ends : Live R W) → IsLater ends ends []
  later_stays ends = record {
    reader = refl;
    writer = refl;
    limits = refl;
    came_is = sym (append-nil (came_in ends.came));
    consumed = Consumes-nil (remaining ends.reader.now);
    written = [];
    put_is = sym (append-nil (written_in ends.put));
    rising = omega arith;
    wrote = λ same. Appends-nil (contents ends.writer.now);
  }

  -- what came until a second state, and then until a third, came until the third
  pub later_goes_on : (first second third : Live R W) (came more : List ℕ) → IsLater first second came → IsLater second third more
      → IsLater first third (came ++ more)
  later_goes_on first second third came more one two = record {
    reader = two.reader ∙ one.reader;
    writer = two.writer ∙ one.writer;
    limits = two.limits ∙ one.limits;
    came_is = two.came_is ∙ ap (λ (bytes : List ℕ). bytes ++ more) one.came_is ∙ append_assoc (came_in first.came) came more;
    consumed = Consumes-trans (remaining first.reader.now) (remaining second.reader.now) (remaining third.reader.now) came more one.consumed two.consumed;
    written = one.written ++ two.written;
    put_is = two.put_is ∙ ap (λ (bytes : List ℕ). bytes ++ two.written) one.put_is ∙ append_assoc (written_in first.put) one.written two.written;
    rising = omega (arith, one.rising, two.rising);
    wrote = λ same. Appends-trans (contents first.writer.now) (contents second.writer.now) (contents third.writer.now) one.written two.written
        (one.wrote (omega (arith, one.rising, two.rising, same))) (two.wrote (omega (arith, one.rising, two.rising, same)));
  }
