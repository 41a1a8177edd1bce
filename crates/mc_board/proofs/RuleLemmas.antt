-- The rule, and what the other seats know after a step of a lock's owner.
use Rattle.std.proofs.Common.{◌≡◌, ◌≢◌, ℕ, ◌+◌, ◌*◌, ◌<◌, List, length, set, cond, eqb, sym, refl, ap, ◌∙◌, subst, ⊎_elim, arith, eq-eqb, ne_eqb}
use Rattle.std.proofs.lemmas.List.Elements.{All-weaker}
use Rattle.std.specs.Prelude.{slice_index}
use mathlib.Core.Option.{Option, some, some-injective, some-ne-none}
use mathlib.Core.List.{IsPrefix}
use lib.ListN.{get_elem?}
use Rattle.atomic_table.specs.Table.{State}
use Rattle.atomic_table.proofs.Lists.{at_set}
use Rattle.mc_item.specs.declared.event.Event.{Event}
use Rattle.mc_board.specs.declared.{rule.Counts.Counts, rule.Look.Look, rule.Note.Note, rule.Reading.Reading, rule.Sight.Sight, rule.Span.Span, rule.Stage.Stage, rule.View.View}
use Rattle.mc_board.specs.declared.rule.Look.TheVariants as looks
use Rattle.mc_board.specs.declared.rule.View.TheVariants as views
use Rattle.mc_board.specs.{Figures.figures_of, Histories.list_at, Histories.IsBehind, Histories.IsNoteOf, Views.locks_of, Views.first_word, Views.words_of}
use Rattle.mc_board.specs.Board.{Ledger, IsFree, IsGrowing, IsOwner, IsReading, IsToken, Knows, Reads}
use Rattle.mc_board.proofs.PrefixLemmas.{same_or_not, prefix_self, prefix_trans, prefix_length, prefix_take}

-- the rule of a table's state
abbrev pub Law : Counts → State Unit View → Type 0
Law counts s = IsGrowing counts s.words s.views

abbrev pub ledger : Counts → List ℕ → (ℕ → List Event) → (ℕ → Stage) → (ℕ → Option ℕ) → (ℕ → List Span) → Ledger
ledger counts words history stage owner made =
    record { counts = counts; words = words; history = history; stage = stage; owner = owner; made = made }

-- a lock's words are some of the words
pub word_within : (counts : Counts) (lock i : ℕ) → lock < locks_of counts → i < 16 → first_word counts lock + i < words_of counts
word_within counts lock i below few = omega (arith, below, few)

-- there is a word
pub words_some : (counts : Counts) (n : ℕ) → n ≡ words_of counts → 0 < n
words_some counts n wide = omega (arith, wide)

-- two locks share no word
pub words_apart : (counts : Counts) (j k a b : ℕ) → j ≢ k → a < 16 → b < 16 → first_word counts j + a ≢ first_word counts k + b
words_apart counts j k a b apart here there same = apart (omega (arith, same, here, there))

-- what is known of each lock, with this instead for one lock
abbrev pub changed_at : {A : Type 0} → ℕ → A → (ℕ → A) → ℕ → A
changed_at lock x f j = cond (eqb j lock) x (f j)

pub changed_here : {A : Type 0} (lock : ℕ) (x : A) (f : ℕ → A) → changed_at lock x f lock ≡ x
changed_here lock x f = ap (λ b. cond b x (f lock)) (eq-eqb lock lock refl)

pub changed_else : {A : Type 0} (lock : ℕ) (x : A) (f : ℕ → A) (j : ℕ) → j ≢ lock → changed_at lock x f j ≡ f j
changed_else lock x f j n = ap (λ b. cond b x (f j)) (ne_eqb j lock n)

-- a note of a history is one of each longer history
IsNoteOf-longer : (xs ys : List Event) (note : Note) → IsPrefix xs ys → IsNoteOf xs note → IsNoteOf ys note
IsNoteOf-longer xs ys note p is =
    record {
      events = omega (arith, prefix_length xs ys p, is.events);
      values = is.values ∙ ap figures_of (sym (prefix_take note.events xs ys p is.events));
    }

-- what was behind is behind the histories with this longer one
pub IsBehind-longer : (lock : ℕ) (xs : List Event) (h : ℕ → List Event) (s : Sight) → IsPrefix (h lock) xs → IsBehind h s → IsBehind (changed_at lock xs h) s
IsBehind-longer lock xs h s p b =
    record {
      seen = λ j. prefix_trans (list_at s.seen j) (h j) (changed_at lock xs h j) (b.seen j) (longer j);
      noted = λ j. omega (arith, b.noted j, prefix_length (h j) (changed_at lock xs h j) (longer j));
      figures = All-weaker (λ (n : Note). IsNoteOf (h n.lock) n) (λ (n : Note). IsNoteOf (changed_at lock xs h n.lock) n)
          (λ (n : Note) (is : IsNoteOf (h n.lock) n). IsNoteOf-longer (h n.lock) (changed_at lock xs h n.lock) n (longer n.lock) is) s.figures b.figures;
    }
  where
    longer : (j : ℕ) → IsPrefix (h j) (changed_at lock xs h j)
    longer j = ⊎_elim
        (λ (same : j ≡ lock). subst (λ (k : ℕ). IsPrefix (h k) (changed_at lock xs h k)) (sym same) (subst (IsPrefix (h lock)) (sym (changed_here lock xs h)) p))
        (λ (apart : j ≢ lock). subst (IsPrefix (h j)) (sym (changed_else lock xs h j apart)) (prefix_self (h j)))
        (same_or_not j lock)

-- one view is changed
pub known_set : (l : Ledger) (seats : List View) (id : ℕ) (w : View)
    → ((j : ℕ) (u : View) → j ≢ id → get_elem? seats j ≡ some u → Knows l j u)
    → Knows l id w
    → (j : ℕ) (u : View) → get_elem? (set seats id w) j ≡ some u → Knows l j u
known_set l seats id w others mine j u e =
    ⊎_elim
    (λ (x : (j ≡ id) × (w ≡ u)). subst (λ (y : ℕ × View). Knows l y.0 y.1) (λ i. (sym x.0 i, x.1 i)) mine)
    (λ (x : (j ≢ id) × (get_elem? seats j ≡ some u)). others j u x.0 x.1)
    (at_set seats id j w u e)

-- what a step of a lock's owner leaves: the histories and stages of the other locks, who was behind, and what holds of readings
pub record Moves (counts : Counts) (ws ws' : List ℕ) (h h' : ℕ → List Event) (st st' : ℕ → Stage) (lock : ℕ) : Type 0 where
  pub same : (j : ℕ) → j ≢ lock → h' j ≡ h j
  pub quiet : (j : ℕ) → j ≢ lock → st' j ≡ st j
  pub behind : (s : Sight) → IsBehind h s → IsBehind h' s
  pub reads : (o : ℕ → Option ℕ) (md : ℕ → List Span) (look : Look) → Reads (ledger counts ws h st o md) look → Reads (ledger counts ws' h' st' o md) look

-- what the other seats know after a step of a lock's owner
pub others_moved : (counts : Counts) (ws ws' : List ℕ) (h h' : ℕ → List Event) (st st' : ℕ → Stage) (o : ℕ → Option ℕ) (md : ℕ → List Span) (lock id : ℕ) → o lock ≡ some id
    → Moves counts ws ws' h h' st st' lock
    → (j : ℕ) (u : View) → j ≢ id → Knows (ledger counts ws h st o md) j u → Knows (ledger counts ws' h' st' o md) j u
others_moved counts ws ws' h h' st st' o md lock id mine m j (views.Root root) apart k = (
  k.0,
  k.1,
  λ i le.
      let was : IsFree (ledger counts ws h st o md) i = k.2 i le in
      let else' : i ≢ lock = λ same. some-ne-none id (sym mine ∙ (ap o (sym same) ∙ was.owner)) in
      record { owner = was.owner; history = m.same i else' ∙ was.history; stage = m.quiet i else' ∙ was.stage; made = was.made },
)
others_moved counts ws ws' h h' st st' o md lock id mine m j (views.Owner owned) apart k =
    let was : IsOwner (ledger counts ws h st o md) j owned = k in
    let else' : owned.lock ≢ lock = λ same. apart (some-injective j id (sym was.owner ∙ (ap o same ∙ mine))) in
    record {
      owner = was.owner;
      lock = was.lock;
      word = was.word;
      history = was.history ∙ sym (m.same owned.lock else');
      stage = was.stage ∙ sym (m.quiet owned.lock else');
      told = m.behind owned.told was.told;
      first = was.first;
      made = was.made;
      shown = was.shown;
    }
others_moved counts ws ws' h h' st st' o md lock id mine m j (views.Seen known) apart k =
    let was : IsToken (ledger counts ws h st o md) known = k in
    record { sight = m.behind known.sight was.sight; told = m.behind known.told was.told; look = m.reads o md known.look was.look }
others_moved counts ws ws' h h' st st' o md lock id mine m j (views.Account account) apart k = k
others_moved counts ws ws' h h' st st' o md lock id mine m j views.Spent apart k = tt

-- a reading holds on if its lock's first word and history stay
reading_same : (counts : Counts) (ws ws' : List ℕ) (h h' : ℕ → List Event) (st st' : ℕ → Stage) (o : ℕ → Option ℕ) (md : ℕ → List Span) (r : Reading)
    → slice_index ws' (first_word counts r.lock) ≡ slice_index ws (first_word counts r.lock) → h' r.lock ≡ h r.lock
    → IsReading (ledger counts ws h st o md) r → IsReading (ledger counts ws' h' st' o md) r
reading_same counts ws ws' h h' st st' o md r first same k =
    record {
      lock = k.lock;
      later = omega (arith, k.later, first);
      same = subst (λ (x : ℕ × List Event). r.at ≡ x.0 → r.at ≡ 2 * length x.1 → (j : ℕ) → j < length r.got → slice_index r.got j ≡ slice_index (figures_of x.1) j)
          (λ i. (sym first i, sym same i)) k.same;
    }

-- readings hold on if no first word and no history changes
pub reads_same : (counts : Counts) (ws ws' : List ℕ) (h : ℕ → List Event) (st st' : ℕ → Stage) → ((j : ℕ) → slice_index ws' (first_word counts j) ≡ slice_index ws (first_word counts j))
    → (o : ℕ → Option ℕ) (md : ℕ → List Span) (look : Look) → Reads (ledger counts ws h st o md) look → Reads (ledger counts ws' h st' o md) look
reads_same counts ws ws' h st st' firsts o md looks.Away k = tt
reads_same counts ws ws' h st st' firsts o md (looks.Reading r) k = reading_same counts ws ws' h h st st' o md r (firsts r.lock) refl k

-- readings hold on if the first word of one lock becomes greater, and those of the others stay
pub reads_later : (counts : Counts) (ws ws' : List ℕ) (h h' : ℕ → List Event) (st st' : ℕ → Stage) (lock : ℕ)
    → ((j : ℕ) → j ≢ lock → slice_index ws' (first_word counts j) ≡ slice_index ws (first_word counts j))
    → ((j : ℕ) → j ≢ lock → h' j ≡ h j)
    → slice_index ws (first_word counts lock) < slice_index ws' (first_word counts lock)
    → (o : ℕ → Option ℕ) (md : ℕ → List Span) (look : Look) → Reads (ledger counts ws h st o md) look → Reads (ledger counts ws' h' st' o md) look
reads_later counts ws ws' h h' st st' lock firsts same lt o md looks.Away k = tt
reads_later counts ws ws' h h' st st' lock firsts same lt o md (looks.Reading r) k =
    let was : IsReading (ledger counts ws h st o md) r = k in
    ⊎_elim
    (λ (here : r.lock ≡ lock).
    let more : slice_index ws (first_word counts r.lock) < slice_index ws' (first_word counts r.lock) =
    subst (λ (j : ℕ). slice_index ws (first_word counts j) < slice_index ws' (first_word counts j)) (sym here) lt in
    let now : IsReading (ledger counts ws' h' st' o md) r = record {
      lock = was.lock;
      later = omega (arith, was.later, more);
      same = λ is even. absurd (omega (arith, was.later, more, is));
    } in now)
    (λ (apart : r.lock ≢ lock). reading_same counts ws ws' h h' st st' o md r (firsts r.lock apart) (same r.lock apart) was)
    (same_or_not r.lock lock)
