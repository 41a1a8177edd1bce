-- A conversation that was run is a run of all bytes that its reader has to give.
use Rattle.std.proofs.Common.{◌≡◌, ◌≢◌, ◌∙◌, ◌++◌, ◌<◌, ℕ, zero, suc, Bool, true, false, List, [], ◌∷◌, Option, None, Some, ap, append-nil, arith, length, subst, sym, refl}
use Rattle.std.specs.Prelude.{IfSome, if◌then◌else◌, slice_index_or}
use Rattle.std.specs.Io.KnownBytes.{Appends, Consumes, IsAtEnd}
use Rattle.mc_item.specs.declared.config.Config.{Config}
use Rattle.mc_script.specs.Run.{AreCounted, Leaves}
use Rattle.mc_script.specs.declared.outcome.Outcome.{Outcome}
use Rattle.mc_script.specs.declared.outcome.Outcome.TheVariants.{Done, Memory, HistoryFull, Input, Output}
use Rattle.mc_store.specs.Finals.{FinalView}
use Rattle.mc_driver.specs.{Called.AreItsCalls, Input.AreRun, Input.IsConversed, Input.OfAllBytes, Input.Printed, Input.ToAndFrom}
use Rattle.mc_driver.specs.{Left.IsRunDone, Left.IsScriptLeft, Live.IsLater, Live.written_in}
use Rattle.mc_driver.specs.Run.{IsAccepted, histories_left, limits_of, with_callers}
use Rattle.mc_driver.specs.declared.live.Live.{Live}

-- the bytes that are known, or none
abbrev known : Option (List ℕ) → List ℕ
known None = []
known (Some bytes) = bytes

-- what came and what is known to be left is all that was known
all_known : (before after : Option (List ℕ)) (came : List ℕ) → Consumes before after came → IfSome before (λ bytes. came ++ known after ≡ bytes)
all_known None after came consumed = tt
all_known (Some bytes) None came consumed = absurd consumed
all_known (Some bytes) (Some rest) came consumed = sym consumed

-- at the end nothing is known to be left
none_known : (after : Option (List ℕ)) → IsAtEnd after → known after ≡ []
none_known None end = refl
none_known (Some rest) end = end

-- the first of some items, whatever would stand for it
first_of : {X : Type 0} (xs : List X) (a b : X) → 0 < length xs → slice_index_or xs 0 a ≡ slice_index_or xs 0 b
first_of [] a b some = absurd (omega (arith, some))
first_of (x ∷ xs) a b some = refl

-- a script that didn't end at its sink counts no failure of it
no_miss : (outcome : Outcome) (reads reads' writes writes' : ℕ) → AreCounted outcome reads reads' writes writes' → outcome ≢ Output → writes' ≡ writes
no_miss Done reads reads' writes writes' counted other = counted.1
no_miss Memory reads reads' writes writes' counted other = counted.1
no_miss HistoryFull reads reads' writes writes' counted other = counted.1
no_miss Input reads reads' writes writes' counted other = counted.1
no_miss Output reads reads' writes writes' counted other = absurd (other refl)

-- nothing was printed, and nothing failed
abbrev nothing : Printed
nothing = record { bytes = []; misses = 0; stops = 0 }

module _ {R W : Type 0} (remaining : R → Option (List ℕ)) (contents : W → Option (List ℕ)) where
  -- how often a read of these ends failed
  abbrev stops_of : Live R W → ℕ
  stops_of ends = if ends.failed then 1 else 0

  -- a conversation ran from these ends
  abbrev pub HasRunLive : Config → List ℕ → Live R W → List (Live R W) → List Outcome → FinalView → Type 0
  HasRunLive config moments start ends ended final =
      IsRunDone (IsLater remaining contents) (λ l. IsAtEnd (remaining l.reader.now)) (λ l. written_in l.put) stops_of (λ l. length l.faults) config moments
      (start ∷ []) ends ended final

  module _ (config : Config) (moments : List ℕ) (start : Live R W) (ends : List (Live R W)) (ended : List Outcome) (final : FinalView)
      (run : HasRunLive config moments start ends ended final) (calm : start.failed ≡ false) (none : start.put ≡ []) (fine : start.faults ≡ []) where
    abbrev end : Live R W
    end = slice_index_or ends 0 start

    abbrev how : Outcome
    how = slice_index_or ended 0 Done

    script : IsScriptLeft (IsLater remaining contents) (λ l. IsAtEnd (remaining l.reader.now)) (λ l. written_in l.put) stops_of (λ l. length l.faults)
        config (histories_left final) 0 start end how
    script = run.each 0 start Done (omega arith)

    abbrev rest : List ℕ
    rest = known (remaining end.reader.now)

    abbrev input : List ℕ
    input = script.leaves.came ++ rest

    abbrev before : ToAndFrom
    before = (input, nothing)

    abbrev after : ToAndFrom
    after = (rest, record { bytes = written_in end.put; misses = length end.faults; stops = stops_of end })

    counted : AreCounted how 0 (stops_of end) 0 (length end.faults)
    counted =
        subst (λ (n : ℕ). AreCounted how 0 (stops_of end) n (length end.faults)) (ap length fine)
        (subst (λ (b : Bool). AreCounted how (if b then 1 else 0) (stops_of end) (length start.faults) (length end.faults)) calm script.counted)

    as_lists : IsScriptLeft (λ (a b : ToAndFrom) (came : List ℕ). a.0 ≡ came ++ b.0) (λ a. a.0 ≡ []) (λ a. a.1.bytes) (λ a. if true then a.1.stops else 0)
        (λ a. a.1.misses) config (histories_left final) 0 before after how
    as_lists = record {
      leaves = record {
        came = script.leaves.came;
        since = refl;
        leaves = λ more over. subst (λ (taken : List ℕ). Leaves how (limits_of config) (script.leaves.came ++ more) more taken (written_in end.put)
            (AreItsCalls config 0 (histories_left final)) 0) (ap written_in none)
            (script.leaves.leaves more (λ at. over (none_known (remaining end.reader.now) at)));
      };
      counted = counted;
    }

    each : (i : ℕ) (d : ToAndFrom) (outcome : Outcome) → i < 1
        → IsScriptLeft (λ (a b : ToAndFrom) (came : List ℕ). a.0 ≡ came ++ b.0) (λ a. a.0 ≡ []) (λ a. a.1.bytes) (λ a. if true then a.1.stops else 0)
        (λ a. a.1.misses) config (histories_left final) i (slice_index_or (before ∷ []) i d) (slice_index_or (after ∷ []) i d) (slice_index_or ended i outcome)
    each zero d outcome below =
        subst (λ (o : Outcome). IsScriptLeft (λ (a b : ToAndFrom) (came : List ℕ). a.0 ≡ came ++ b.0) (λ a. a.0 ≡ []) (λ a. a.1.bytes)
        (λ a. if true then a.1.stops else 0) (λ a. a.1.misses) config (histories_left final) 0 before after o)
        (first_of ended Done outcome (omega (arith, run.many))) as_lists
    each (suc k) d outcome below = absurd (omega (arith, below))

    all_lists : AreRun true config moments (before ∷ []) (after ∷ []) ended final
    all_lists = record {
      each = each;
      maintained = run.maintained;
      crawled = run.crawled;
      idle = run.idle;
      whole = run.whole;
      by = run.by;
      many = run.many;
      pairs = refl;
      store = run.store;
    }

    -- what was put was written, if no write failed
    written : how ≢ Output → Appends (contents start.writer.now) (contents end.writer.now) (written_in end.put)
    written other =
        let since = script.leaves.since in
        let put : written_in end.put ≡ since.written = since.put_is ∙ ap (λ texts. written_in texts ++ since.written) none in
        subst (Appends (contents start.writer.now) (contents end.writer.now)) (sym put)
        (since.wrote (no_miss how (stops_of start) (stops_of end) (length start.faults) (length end.faults) script.counted other))

  -- the ends hold the same reader and writer
  pub same_ends : (config : Config) (moments : List ℕ) (start : Live R W) (ends : List (Live R W)) (ended : List Outcome) (final : FinalView)
      → HasRunLive config moments start ends ended final
      → ((slice_index_or ends 0 start).reader.ghost_name ≡ start.reader.ghost_name) × ((slice_index_or ends 0 start).writer.ghost_name ≡ start.writer.ghost_name)
  same_ends config moments start ends ended final run =
      let own = run.each 0 start Done (omega arith) in
      (own.leaves.since.reader, own.leaves.since.writer)

  -- all of it
  pub conversed : (config : Config) (moments : List ℕ) (start : Live R W) (ends : List (Live R W)) (ended : List Outcome) (final : FinalView)
      → HasRunLive (with_callers 1 config) moments start ends ended final → start.failed ≡ false → start.put ≡ [] → start.faults ≡ [] → IsAccepted 1 config
      → OfAllBytes (remaining start.reader.now)
      (λ input. IsConversed config moments input (contents start.writer.now) (contents (slice_index_or ends 0 start).writer.now) ended)
  conversed config moments start ends ended final run calm none fine accepted =
      let callers = with_callers 1 config in
      let own = script callers moments start ends ended final run calm none fine in
      let last = slice_index_or ends 0 start in
      record {
        input = own.leaves.came ++ known (remaining last.reader.now);
        whole = all_known (remaining start.reader.now) (remaining last.reader.now) own.leaves.came own.leaves.since.consumed;
        done = record {
          printed = written_in last.put;
          final = final;
          run = record {
            scripts = before callers moments start ends ended final run calm none fine ∷ [];
            accepted = accepted;
            are = refl;
            fresh = fresh_one (own.leaves.came ++ known (remaining last.reader.now));
            left = after callers moments start ends ended final run calm none fine ∷ [];
            run = all_lists callers moments start ends ended final run calm none fine;
            texts = sym (append-nil (written_in last.put));
          };
          written = λ other. written callers moments start ends ended final run calm none fine (other Done);
        };
      }
    where
      fresh_one : (bytes : List ℕ) (k : ℕ) (d : ToAndFrom) → k < 1 → (slice_index_or ((bytes, nothing) ∷ []) k d).1.bytes ≡ []
      fresh_one bytes zero d below = refl
      fresh_one bytes (suc k) d below = absurd (omega (arith, below))
