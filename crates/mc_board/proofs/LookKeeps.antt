-- The steps of a token that looks at a lock's words keep the rule: it opens, reads figures, and checks.
use Rattle.std.proofs.Common.{◌≡◌, ◌≢◌, ℕ, ◌+◌, ◌*◌, ◌/◌, ◌%◌, ◌<◌, ◌≤◌, [], ◌∷◌, ◌++◌, length, take, Bool, cond, refl, sym, ap, ◌∙◌, subst, ⊎_elim, arith, eq-eqb, ne_eqb}
use Rattle.std.specs.Prelude.{slice_index}
use Rattle.std.proofs.lemmas.Grind.{same_number_lists}
use Rattle.std.proofs.Math.Seq.{take-length}
use mathlib.Core.Option.{none}
use Rattle.atomic_table.specs.Table.{State, Me, step, keeps, Allows}
use Rattle.mc_board.specs.declared.{rule.Counts.Counts, rule.Known.Known, rule.Look.Look, rule.Note.Note, rule.Reading.Reading, rule.Sight.Sight, rule.Stage.Stage, rule.View.View}
use Rattle.mc_board.specs.declared.rule.Look.TheVariants as looks
use Rattle.mc_board.specs.declared.rule.Stage.TheVariants as stages
use Rattle.mc_board.specs.declared.rule.View.TheVariants as views
use Rattle.mc_board.specs.{Figures.figures_of, Views.lock_of, Views.locks_of, Views.first_word}
use Rattle.mc_board.specs.Histories.{list_at, with_figures, with_noted, IsBehind}
use Rattle.mc_board.specs.Board.{turn, IsReading, IsToken, IsWritten, Reads}
use Rattle.mc_board.specs.Looking.{look_after, opened_in, reading_in, sight_after, Checked, Opened, Read}
use Rattle.mc_board.proofs.{FigureLemmas.length-figures_of, PrefixLemmas.each_more, PrefixLemmas.prefix_length, PrefixLemmas.same_or_not}
use Rattle.mc_board.proofs.{SeenLemmas.IsBehind-with_figures, SeenLemmas.IsBehind-with_noted, RuleLemmas.Law, RuleLemmas.ledger, CompareKeeps.viewed}

pub lock_of-first_word : (counts : Counts) (lock word : ℕ) → word ≡ first_word counts lock → lock_of word ≡ lock
lock_of-first_word counts lock word there = omega (arith, there)

-- half of a lock's first word is the length of its history
half : (n l : ℕ) (st : Stage) → n ≡ 2 * l + turn st → n / 2 ≡ l
half n l stages.Still e = omega (arith, e)
half n l (stages.Writing values) e = omega (arith, e)

-- if the first word is twice the length, the owner isn't writing
still_at : (n l : ℕ) (st : Stage) → n ≡ 2 * l + turn st → n ≡ 2 * l → st ≡ stages.Still
still_at n l stages.Still e even = refl
still_at n l (stages.Writing values) e even = absurd (omega (arith, e, even))

-- if it is even, it is twice the length
even_is : (n l : ℕ) (st : Stage) → n ≡ 2 * l + turn st → n % 2 ≡ 0 → n ≡ 2 * l
even_is n l stages.Still e even = omega (arith, e)
even_is n l (stages.Writing values) e even = absurd (omega (arith, e, even))

opens_look : (counts : Counts) (slots id lock : ℕ) (known : Known) → lock < locks_of counts
    → Allows (Law counts) slots id (views.Seen known, []) (first_word counts lock) (λ n. n) (Opened lock (step slots (first_word counts lock) 0 0 none) (views.Seen known, []))
opens_look counts slots id lock known below s k homes at fits =
    let found : ℕ = slice_index s.words (first_word counts lock) in
    let l = ledger counts s.words k.history k.stage k.owner k.made in
    let mine : IsToken l known = k.known id (views.Seen known) at in
    let len : found / 2 ≡ length (k.history lock) = half found (length (k.history lock)) (k.stage lock) (k.written lock below).count in
    let seen = prefix_length (list_at known.sight.seen lock) (k.history lock) (mine.sight.seen lock) in
    let noted = mine.sight.noted lock in
    let reading : IsReading l (record { lock = lock; at = found; got = [] }) = record { lock = below; later = omega arith; same = λ same even j none. absurd (omega (arith, none)) } in (
      opened_in lock found (views.Seen known),
      keeps,
      tt,
      viewed counts s k id (first_word counts lock) (opened_in lock found (views.Seen known))
          (record { sight = IsBehind-with_noted k.history known.sight lock (found / 2) mine.sight (omega (arith, len)); told = mine.told; look = reading }),
      (refl, (omega (arith, len, seen), omega (arith, len, noted))),
    )

reads : (counts : Counts) (slots id word : ℕ) (known : Known) (r : Reading) → known.look ≡ looks.Reading r → word ≡ first_word counts r.lock + (length r.got + 1) → length r.got < 8
    → Allows (Law counts) slots id (views.Seen known, []) word (λ n. n) (Read (step slots word 0 0 none) (views.Seen known, []))
reads counts slots id word known r look place few s k homes at fits =
    let found : ℕ = slice_index s.words word in
    let l = ledger counts s.words k.history k.stage k.owner k.made in
    let mine : IsToken l known = k.known id (views.Seen known) at in
    let reading : IsReading l r = subst (Reads l) look mine.look in
    let w = views.Seen (record known { look = look_after found known.look }) in
    let more : IsReading l (record r { got = r.got ++ found ∷ [] }) =
    record {
      lock = reading.lock;
      later = reading.later;
      same = λ same even.
          let here : IsWritten s.words (first_word counts r.lock) (k.history r.lock) (k.stage r.lock) = k.written r.lock reading.lock in
          let quiet : k.stage r.lock ≡ stages.Still = still_at (slice_index s.words (first_word counts r.lock)) (length (k.history r.lock)) (k.stage r.lock) here.count (sym same ∙ even) in
          let still : IsWritten s.words (first_word counts r.lock) (k.history r.lock) stages.Still = subst (IsWritten s.words (first_word counts r.lock) (k.history r.lock)) quiet here in
          each_more (λ j y. y ≡ slice_index (figures_of (k.history r.lock)) j) r.got found (reading.same same even)
          (subst (λ (i : ℕ). slice_index s.words i ≡ slice_index (figures_of (k.history r.lock)) (length r.got)) (sym place) (still.rest (length r.got) few));
    } in (
      w,
      keeps,
      tt,
      viewed counts s k id word w (record { sight = mine.sight; told = mine.told; look = subst (λ (t : Look). Reads l (look_after found t)) (sym look) more }),
      refl,
    )

-- what was read are figures of the history, if the first word is still the even number that was found first
noted_here : (counts : Counts) (s : State Unit View) (k : Law counts s) (sight : Sight) (r : Reading) → r.at % 2 ≡ 0 → length r.got ≡ 8 → r.at ≡ slice_index s.words (first_word counts r.lock)
    → IsBehind k.history sight → IsReading (ledger counts s.words k.history k.stage k.owner k.made) r
    → IsBehind k.history (with_figures sight (record { lock = r.lock; events = r.at / 2; values = r.got }))
noted_here counts s k sight r even eight same behind reading =
    let h = k.history r.lock in
    let first = slice_index s.words (first_word counts r.lock) in
    let count = (k.written r.lock reading.lock).count in
    let len : r.at / 2 ≡ length h = ap (λ (n : ℕ). n / 2) same ∙ half first (length h) (k.stage r.lock) count in
    let twice : r.at ≡ 2 * length h = same ∙ even_is first (length h) (k.stage r.lock) count (ap (λ (n : ℕ). n % 2) (sym same) ∙ even) in
    let values : r.got ≡ figures_of h = same_number_lists r.got (figures_of h) (eight ∙ sym (length-figures_of h)) (reading.same same twice) in
    IsBehind-with_figures k.history sight (record { lock = r.lock; events = r.at / 2; values = r.got }) behind
    (record { events = omega (arith, len); values = values ∙ ap figures_of (sym (take-length h) ∙ ap (λ n. take n h) (sym len)) })

checks : (counts : Counts) (slots id : ℕ) (known : Known) (r : Reading) → known.look ≡ looks.Reading r → r.at % 2 ≡ 0 → length r.got ≡ 8
    → Allows (Law counts) slots id (views.Seen known, []) (first_word counts r.lock) (λ n. n) (Checked (step slots (first_word counts r.lock) 0 0 none) (views.Seen known, []))
checks counts slots id known r look even eight s k homes at fits =
    let found : ℕ = slice_index s.words (first_word counts r.lock) in
    let l = ledger counts s.words k.history k.stage k.owner k.made in
    let mine : IsToken l known = k.known id (views.Seen known) at in
    let reading : IsReading l r = subst (Reads l) look mine.look in
    let len : found / 2 ≡ length (k.history r.lock) = half found (length (k.history r.lock)) (k.stage r.lock) (k.written r.lock reading.lock).count in
    let note : Note = record { lock = r.lock; events = r.at / 2; values = r.got } in
    let after : Bool → Sight = λ b. cond b (with_figures known.sight note) (with_noted known.sight r.lock (found / 2)) in
    let behind : IsBehind k.history (sight_after found known.sight known.look) = subst (λ (t : Look). IsBehind k.history (sight_after found known.sight t)) (sym look)
    (⊎_elim
    (λ (e : found ≡ r.at). subst (λ (b : Bool). IsBehind k.history (after b)) (sym (eq-eqb found r.at e)) (noted_here counts s k known.sight r even eight (sym e) mine.sight reading))
    (λ (apart : found ≢ r.at). subst (λ (b : Bool). IsBehind k.history (after b)) (sym (ne_eqb found r.at apart))
    (IsBehind-with_noted k.history known.sight r.lock (found / 2) mine.sight (omega (arith, len))))
    (same_or_not found r.at)) in
    let w = views.Seen (record known { sight = sight_after found known.sight known.look; look = looks.Away }) in (
      w,
      keeps,
      tt,
      viewed counts s k id (first_word counts r.lock) w (record { sight = behind; told = mine.told; look = tt }),
      (refl, subst (λ (t : Look). (reading_in t).at ≤ found) (sym look) reading.later),
    )

-- the same at a view and a word that are known to be these
pub opens_look_as : (counts : Counts) (slots id lock word : ℕ) (me : Me Unit View) (known : Known) → me ≡ (views.Seen known, []) → word ≡ first_word counts lock → lock < locks_of counts
    → Allows (Law counts) slots id me word (λ n. n) (Opened (lock_of word) (step slots word 0 0 none) me)
opens_look_as counts slots id lock word me known is there below =
    subst (λ (x : Me Unit View × (ℕ × ℕ)). Allows (Law counts) slots id x.0 x.1.0 (λ n. n) (Opened x.1.1 (step slots x.1.0 0 0 none) x.0))
    (λ i. (sym is i, (sym there i, sym (lock_of-first_word counts lock word there) i)))
    (opens_look counts slots id lock known below)

pub reads_as : (counts : Counts) (slots id word : ℕ) (me : Me Unit View) (known : Known) (r : Reading) → me ≡ (views.Seen known, []) → known.look ≡ looks.Reading r
    → word ≡ first_word counts r.lock + (length r.got + 1) → length r.got < 8
    → Allows (Law counts) slots id me word (λ n. n) (Read (step slots word 0 0 none) me)
reads_as counts slots id word me known r is look place few =
    subst (λ (m : Me Unit View). Allows (Law counts) slots id m word (λ n. n) (Read (step slots word 0 0 none) m)) (sym is) (reads counts slots id word known r look place few)

pub checks_as : (counts : Counts) (slots id word : ℕ) (me : Me Unit View) (known : Known) (r : Reading) → me ≡ (views.Seen known, []) → known.look ≡ looks.Reading r
    → word ≡ first_word counts r.lock → r.at % 2 ≡ 0 → length r.got ≡ 8
    → Allows (Law counts) slots id me word (λ n. n) (Checked (step slots word 0 0 none) me)
checks_as counts slots id word me known r is look there even eight =
    subst (λ (x : Me Unit View × ℕ). Allows (Law counts) slots id x.0 x.1 (λ n. n) (Checked (step slots x.1 0 0 none) x.0)) (λ i. (sym is i, sym there i)) (checks counts slots id known r look even eight)
