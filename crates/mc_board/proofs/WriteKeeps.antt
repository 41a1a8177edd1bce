-- The steps of an owner keep the rule: it adds events, or begins, writes figures, and ends.
use Rattle.std.proofs.Common.{◌≡◌, ◌≢◌, ℕ, ◌+◌, ◌-◌, ◌*◌, ◌%◌, ◌^◌, ◌<◌, ◌≤◌, List, [], ◌++◌, length, set, refl, sym, ap, ◌∙◌, subst, ⊎_elim, arith, length-append, length-set, get_or-set_same, get_or-set_other}
use Rattle.std.specs.Prelude.{Some, slice_get, slice_index}
use mathlib.Core.List.{IsPrefix}
use mathlib.Core.Option.{none}
use Rattle.atomic_table.specs.Table.{State, Me, step, keeps, Allows}
use Rattle.mc_item.specs.declared.{event.Event.Event, item.Who.Who}
use Rattle.mc_board.specs.declared.{rule.Counts.Counts, rule.Owned.Owned, rule.Stage.Stage, rule.View.View}
use Rattle.mc_board.specs.declared.rule.Stage.TheVariants as stages
use Rattle.mc_board.specs.declared.rule.View.TheVariants as views
use Rattle.mc_board.specs.Accounts.{first_caller, maker_in, AreShown, IsAccount, IsEntered}
use Rattle.mc_board.specs.{Figures.figures_of, Steps.owned_of, Views.first_word}
use Rattle.mc_board.specs.Board.{turn, values_of, IsOwner, IsWritten}
use Rattle.mc_board.specs.Writing.{owned_in, owned_with, stage_after, Added, Begun, Ended, IsOwnerAt, Wrote}
use Rattle.mc_board.proofs.AccountLemmas.{get_either, IsAccount-behind, IsEntered-longer}
use Rattle.mc_board.proofs.PrefixLemmas.{prefix_self, same_or_not}
use Rattle.mc_board.proofs.RuleLemmas.{Law, ledger, word_within, words_apart, changed_at, changed_here, changed_else, reads_same}
use Rattle.mc_board.proofs.WordLemmas.{first_stepped, stepped}

-- what an owner finds in its lock's first word
found_first : (counts : Counts) (s : State Unit View) (k : Law counts s) (id : ℕ) (owned : Owned) → IsOwner (ledger counts s.words k.history k.stage k.owner k.made) id owned
    → slice_index s.words owned.word ≡ 2 * length owned.history + turn owned.stage
found_first counts s k id owned mine =
    ap (slice_index s.words) mine.word ∙ ((k.written owned.lock mine.lock).count ∙ (λ i. 2 * length (sym mine.history i) + turn (sym mine.stage i)))

-- each account has the events that an owner adds, as they were entered
all_entered : (counts : Counts) (s : State Unit View) (k : Law counts s) (id : ℕ) (owned : Owned) (entries : List Event)
    → IsOwner (ledger counts s.words k.history k.stage k.owner k.made) id owned → AreShown owned entries
    → (j : ℕ) → IsAccount (first_caller counts) j (k.made j) (changed_at owned.lock (owned.history ++ entries) k.history)
all_entered counts s k id owned entries mine shown j =
    record { has = λ at place event who there maker own. ⊎_elim (here at place event who there maker own) (else' at place event who there maker own) (same_or_not at owned.lock) }
  where
    h' : ℕ → List Event
    h' = changed_at owned.lock (owned.history ++ entries) k.history

    else' : (at place : ℕ) (event : Event) (who : Who) → slice_get (h' at) place ≡ Some event → maker_in event ≡ Some who → first_caller counts + who.caller ≡ j
        → at ≢ owned.lock → IsEntered (k.made j) who.turn at place
    else' at place event who there maker own apart =
        (k.accounts j).has at place event who (ap (λ (h : List Event). slice_get h place) (sym (changed_else owned.lock (owned.history ++ entries) k.history at apart)) ∙ there) maker own

    new : (place : ℕ) (event : Event) (who : Who) → slice_get (owned.history ++ entries) place ≡ Some event → maker_in event ≡ Some who → first_caller counts + who.caller ≡ j
        → IsEntered (k.made j) who.turn owned.lock place
    new place event who there maker own = ⊎_elim
        (λ (was : slice_get owned.history place ≡ Some event).
        (k.accounts j).has owned.lock place event who (ap (λ (h : List Event). slice_get h place) (sym mine.history) ∙ was) maker own)
        (λ (t : (i : ℕ) × (length owned.history + i ≡ place) × (slice_get entries i ≡ Some event)).
        let e = shown.each t.0 event who t.2 maker in
        let is : owned.shown.lock ≡ j = sym e.0 ∙ (ap (λ (f : ℕ). f + who.caller) mine.shown.first_is ∙ own) in
        subst (λ (x : ℕ × ℕ). IsEntered (k.made x.0) who.turn owned.lock x.1) (λ i. (is i, t.1 i))
        (IsEntered-longer owned.shown.made (k.made owned.shown.lock) who.turn owned.lock (length owned.history + t.0) mine.shown.behind e.1))
        (get_either owned.history entries place event there)

    here : (at place : ℕ) (event : Event) (who : Who) → slice_get (h' at) place ≡ Some event → maker_in event ≡ Some who → first_caller counts + who.caller ≡ j
        → at ≡ owned.lock → IsEntered (k.made j) who.turn at place
    here at place event who there maker own same =
        subst (λ (n : ℕ). IsEntered (k.made j) who.turn n place) (sym same)
        (new place event who (ap (λ (h : List Event). slice_get h place) (sym (ap h' same ∙ changed_here owned.lock (owned.history ++ entries) k.history)) ∙ there) maker own)

-- each account stays whole if the history stays
all_kept : (counts : Counts) (s : State Unit View) (k : Law counts s) (id : ℕ) (owned : Owned) → IsOwner (ledger counts s.words k.history k.stage k.owner k.made) id owned
    → (j : ℕ) → IsAccount (first_caller counts) j (k.made j) (changed_at owned.lock owned.history k.history)
all_kept counts s k id owned mine j =
    IsAccount-behind (first_caller counts) j (k.made j) (changed_at owned.lock owned.history k.history) k.history
    (λ at. subst (λ (h : List Event). IsPrefix h (k.history at)) (sym (same at)) (prefix_self (k.history at))) (k.accounts j)
  where
    same : (at : ℕ) → changed_at owned.lock owned.history k.history at ≡ k.history at
    same at = ⊎_elim
        (λ (is : at ≡ owned.lock). ap (changed_at owned.lock owned.history k.history) is ∙ (changed_here owned.lock owned.history k.history ∙ (mine.history ∙ ap k.history (sym is))))
        (λ (apart : at ≢ owned.lock). changed_else owned.lock owned.history k.history at apart)
        (same_or_not at owned.lock)

adds : (counts : Counts) (slots id n : ℕ) (owned : Owned) (entries : List Event) → owned.stage ≡ stages.Still → 0 < n → n ≡ length entries → length owned.history + n < 2 ^ 63
    → figures_of (owned.history ++ entries) ≡ figures_of owned.history → AreShown owned entries
    → Allows (Law counts) slots id (views.Owner owned, []) owned.word (λ m. (m + 2 * n) % 2 ^ 64) (Added entries (step slots owned.word (2 * n) 0 none) (views.Owner owned, []))
adds counts slots id n owned entries still some_new many room same shown s k homes at fits =
    let mine : IsOwner (ledger counts s.words k.history k.stage k.owner k.made) id owned = k.known id (views.Owner owned) at in
    let found : ℕ = slice_index s.words owned.word in
    let here : found ≡ 2 * length owned.history + turn stages.Still = found_first counts s k id owned mine ∙ ap (λ (t : Stage). 2 * length owned.history + turn t) still in
    let next : (found + 2 * n) % 2 ^ 64 ≡ 2 * length (owned.history ++ entries) + turn stages.Still = omega (arith, here, length-append owned.history entries, many, room) in
    let after : (found + 2 * n) % 2 ^ 64 ≡ 2 * length (owned.history ++ entries) + turn owned.stage = next ∙ ap (λ (t : Stage). 2 * length (owned.history ++ entries) + turn t) (sym still) in
    let values : values_of owned.stage (owned.history ++ entries) ≡ values_of owned.stage owned.history =
    ap (λ (t : Stage). values_of t (owned.history ++ entries)) still ∙ (same ∙ ap (λ (t : Stage). values_of t owned.history) (sym still)) in (
      views.Owner (owned_with owned entries),
      keeps,
      tt,
      first_stepped counts s k id owned (owned.history ++ entries) owned.stage ((found + 2 * n) % 2 ^ 64) mine (entries, refl)
          (omega (arith, here, next, length-append owned.history entries, many, some_new)) after values (all_entered counts s k id owned entries mine shown),
      refl,
    )

begins : (counts : Counts) (slots id : ℕ) (owned : Owned) → owned.stage ≡ stages.Still → length owned.history < 2 ^ 63
    → Allows (Law counts) slots id (views.Owner owned, []) owned.word (λ m. (m + 1) % 2 ^ 64) (Begun (step slots owned.word 1 0 none) (views.Owner owned, []))
begins counts slots id owned still room s k homes at fits =
    let mine : IsOwner (ledger counts s.words k.history k.stage k.owner k.made) id owned = k.known id (views.Owner owned) at in
    let found : ℕ = slice_index s.words owned.word in
    let here : found ≡ 2 * length owned.history + turn stages.Still = found_first counts s k id owned mine ∙ ap (λ (t : Stage). 2 * length owned.history + turn t) still in
    let next : (found + 1) % 2 ^ 64 ≡ 2 * length owned.history + turn (stages.Writing (figures_of owned.history)) = omega (arith, here, room) in (
      views.Owner (owned_in owned (stages.Writing (figures_of owned.history))),
      keeps,
      tt,
      first_stepped counts s k id owned owned.history (stages.Writing (figures_of owned.history)) ((found + 1) % 2 ^ 64) mine (prefix_self owned.history) (omega (arith, here, next)) next
          (ap (λ (t : Stage). values_of t owned.history) (sym still)) (all_kept counts s k id owned mine),
      refl,
    )

ends : (counts : Counts) (slots id n : ℕ) (owned : Owned) (entries : List Event) → owned.stage ≡ stages.Writing (figures_of (owned.history ++ entries)) → 0 < n → n ≡ length entries
    → length owned.history + n < 2 ^ 63 → AreShown owned entries
    → Allows (Law counts) slots id (views.Owner owned, []) owned.word (λ m. (m + (2 * n - 1)) % 2 ^ 64) (Ended entries (step slots owned.word (2 * n - 1) 0 none) (views.Owner owned, []))
ends counts slots id n owned entries written some_new many room shown s k homes at fits =
    let mine : IsOwner (ledger counts s.words k.history k.stage k.owner k.made) id owned = k.known id (views.Owner owned) at in
    let found : ℕ = slice_index s.words owned.word in
    let here : found ≡ 2 * length owned.history + turn (stages.Writing (figures_of (owned.history ++ entries))) =
    found_first counts s k id owned mine ∙ ap (λ (t : Stage). 2 * length owned.history + turn t) written in
    let next : (found + (2 * n - 1)) % 2 ^ 64 ≡ 2 * length (owned.history ++ entries) + turn stages.Still = omega (arith, here, length-append owned.history entries, many, some_new, room) in (
      views.Owner (owned_in (owned_with owned entries) stages.Still),
      keeps,
      tt,
      first_stepped counts s k id owned (owned.history ++ entries) stages.Still ((found + (2 * n - 1)) % 2 ^ 64) mine (entries, refl) (omega (arith, here, next, length-append owned.history entries, many, some_new)) next
          (ap (λ (t : Stage). values_of t owned.history) (sym written)) (all_entered counts s k id owned entries mine shown),
      refl,
    )

-- the nine words after one figure has changed
written_here : (ws values : List ℕ) (first word i figure : ℕ) (history : List Event) → word ≡ first + (i + 1) → i < 8 → word < length ws
    → IsWritten ws first history (stages.Writing values) → IsWritten (set ws word figure) first history (stages.Writing (set values i figure))
written_here ws values first word i figure history place few within was =
    record {
      count = get_or-set_other ws word first figure 0 (λ same. omega (arith, same, place)) ∙ was.count;
      eight = length-set values i figure ∙ was.eight;
      rest = λ j lt. ⊎_elim
          (λ (is : j ≡ i). subst (λ (m : ℕ). slice_index (set ws word figure) (first + (m + 1)) ≡ slice_index (set values i figure) m) (sym is)
          (subst (λ (m : ℕ). slice_index (set ws word figure) m ≡ slice_index (set values i figure) i) place
          (get_or-set_same ws word figure 0 within ∙ sym (get_or-set_same values i figure 0 (omega (arith, few, was.eight))))))
          (λ (apart : j ≢ i). get_or-set_other ws word (first + (j + 1)) figure 0 (λ same. apart (omega (arith, same, place)))
          ∙ (was.rest j lt ∙ sym (get_or-set_other values i j figure 0 apart)))
          (same_or_not j i);
    }

-- no lock's first word is another of a lock's words
first_not : (counts : Counts) (ws : List ℕ) (lock word i figure j : ℕ) → word ≡ first_word counts lock + (i + 1) → i < 8
    → slice_index (set ws word figure) (first_word counts j) ≡ slice_index ws (first_word counts j)
first_not counts ws lock word i figure j place few =
    get_or-set_other ws word (first_word counts j) figure 0
    (λ same. ⊎_elim
    (λ (is : j ≡ lock). omega (arith, same, place, ap (first_word counts) is))
    (λ (apart : j ≢ lock). words_apart counts j lock 0 (i + 1) apart (omega arith) (omega (arith, few)) (omega (arith, same, place)))
    (same_or_not j lock))

writes : (counts : Counts) (slots id word figure : ℕ) (owned : Owned) (values : List ℕ) → owned.stage ≡ stages.Writing values → owned.word < word → word ≤ owned.word + 8
    → Allows (Law counts) slots id (views.Owner owned, []) word (λ _. figure) (λ _. Wrote (step slots word figure 0 none) (views.Owner owned, []) figure)
writes counts slots id word figure owned values writing above within s k homes at fits =
    let mine : IsOwner (ledger counts s.words k.history k.stage k.owner k.made) id owned = k.known id (views.Owner owned) at in
    let lock = owned.lock in
    let i : ℕ = word - (owned.word + 1) in
    let few : i < 8 = omega (arith, within) in
    let place : word ≡ first_word counts lock + (i + 1) = omega (arith, mine.word, above) in
    let some_word : word < length s.words = omega (arith, place, few, word_within counts lock (i + 1) mine.lock (omega (arith, few)), k.wide) in
    let st' = changed_at lock (stages.Writing (set values i figure)) k.stage in
    let there : st' lock ≡ stages.Writing (set values i figure) = changed_here lock (stages.Writing (set values i figure)) k.stage in
    let is : stage_after i figure owned.stage ≡ stages.Writing (set values i figure) = ap (stage_after i figure) writing in
    let was : IsWritten s.words (first_word counts lock) (k.history lock) (stages.Writing values) =
    subst (IsWritten s.words (first_word counts lock) (k.history lock)) (sym mine.stage ∙ writing) (k.written lock mine.lock) in
    let w = views.Owner (owned_in owned (stage_after i figure owned.stage)) in (
      w,
      keeps,
      tt,
      stepped counts s k id lock word (i + 1) figure k.history st' w place (omega (arith, few)) mine.owner
          (record {
            same = λ j apart. refl;
            quiet = λ j apart. changed_else lock (stages.Writing (set values i figure)) k.stage j apart;
            behind = λ _ b. b;
            reads = reads_same counts s.words (set s.words word figure) k.history k.stage st' (λ j. first_not counts s.words lock word i figure j place few);
          })
          k.accounts
          (subst (IsWritten (set s.words word figure) (first_word counts lock) (k.history lock)) (sym there) (written_here s.words values (first_word counts lock) word i figure (k.history lock) place few some_word was))
          (record {
            owner = mine.owner;
            lock = mine.lock;
            word = mine.word;
            history = mine.history;
            stage = is ∙ sym there;
            told = mine.told;
            first = mine.first;
            made = mine.made;
            shown = mine.shown;
          }),
      refl,
    )

-- the same at a view and a word that are known to be these
pub adds_as : (counts : Counts) (slots id word n : ℕ) (me : Me Unit View) (entries : List Event) → IsOwnerAt word stages.Still me → 0 < n → n ≡ length entries → length (owned_of me.0).history + n < 2 ^ 63
    → figures_of ((owned_of me.0).history ++ entries) ≡ figures_of (owned_of me.0).history → AreShown (owned_of me.0) entries
    → Allows (Law counts) slots id me word (λ m. (m + 2 * n) % 2 ^ 64) (Added entries (step slots word (2 * n) 0 none) me)
adds_as counts slots id word n me entries is some_new many room same shown =
    subst (λ (x : Me Unit View × ℕ). Allows (Law counts) slots id x.0 x.1 (λ m. (m + 2 * n) % 2 ^ 64) (Added entries (step slots x.1 (2 * n) 0 none) x.0)) (λ i. (sym is.owner i, is.word i))
    (adds counts slots id n (owned_of me.0) entries is.stage some_new many room same shown)

pub begins_as : (counts : Counts) (slots id word : ℕ) (me : Me Unit View) → IsOwnerAt word stages.Still me → length (owned_of me.0).history < 2 ^ 63
    → Allows (Law counts) slots id me word (λ m. (m + 1) % 2 ^ 64) (Begun (step slots word 1 0 none) me)
begins_as counts slots id word me is room =
    subst (λ (x : Me Unit View × ℕ). Allows (Law counts) slots id x.0 x.1 (λ m. (m + 1) % 2 ^ 64) (Begun (step slots x.1 1 0 none) x.0)) (λ i. (sym is.owner i, is.word i))
    (begins counts slots id (owned_of me.0) is.stage room)

pub ends_as : (counts : Counts) (slots id word n : ℕ) (me : Me Unit View) (entries : List Event) → IsOwnerAt word (stages.Writing (figures_of ((owned_of me.0).history ++ entries))) me → 0 < n → n ≡ length entries
    → length (owned_of me.0).history + n < 2 ^ 63 → AreShown (owned_of me.0) entries
    → Allows (Law counts) slots id me word (λ m. (m + (2 * n - 1)) % 2 ^ 64) (Ended entries (step slots word (2 * n - 1) 0 none) me)
ends_as counts slots id word n me entries is some_new many room shown =
    subst (λ (x : Me Unit View × ℕ). Allows (Law counts) slots id x.0 x.1 (λ m. (m + (2 * n - 1)) % 2 ^ 64) (Ended entries (step slots x.1 (2 * n - 1) 0 none) x.0)) (λ i. (sym is.owner i, is.word i))
    (ends counts slots id n (owned_of me.0) entries is.stage some_new many room shown)

pub writes_as : (counts : Counts) (slots id word first figure : ℕ) (me : Me Unit View) (values : List ℕ) → IsOwnerAt first (stages.Writing values) me → first < word → word ≤ first + 8
    → Allows (Law counts) slots id me word (λ _. figure) (λ _. Wrote (step slots word figure 0 none) me figure)
writes_as counts slots id word first figure me values is above within =
    subst (λ (x : Me Unit View). Allows (Law counts) slots id x word (λ _. figure) (λ _. Wrote (step slots word figure 0 none) x figure)) (sym is.owner)
    (writes counts slots id word figure (owned_of me.0) values is.stage (omega (arith, above, is.word)) (omega (arith, within, is.word)))
