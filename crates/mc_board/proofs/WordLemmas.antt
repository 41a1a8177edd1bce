-- A lock's owner changes one of the lock's words: what the words of the locks have then.
use Rattle.std.proofs.Common.{◌≡◌, ◌≢◌, ℕ, ◌+◌, ◌*◌, ◌<◌, List, length, set, sym, ap, ◌∙◌, subst, ⊎_elim, arith, length-set, get_or-set_same, get_or-set_other}
use Rattle.std.specs.Prelude.{slice_index}
use mathlib.Core.Option.{some}
use mathlib.Core.List.{IsPrefix}
use Rattle.atomic_table.specs.Table.{State}
use Rattle.mc_item.specs.declared.event.Event.{Event}
use Rattle.mc_board.specs.declared.{rule.Counts.Counts, rule.Owned.Owned, rule.Sight.Sight, rule.Stage.Stage, rule.View.View}
use Rattle.mc_board.specs.declared.rule.View.TheVariants as views
use Rattle.mc_board.specs.{Accounts.first_caller, Accounts.IsAccount, Histories.IsBehind, Views.first_word}
use Rattle.mc_board.specs.Board.{turn, values_of, IsGrowing, IsOwner, IsWritten, Knows}
use Rattle.mc_board.proofs.PrefixLemmas.{same_or_not}
use Rattle.mc_board.proofs.RuleLemmas.{Law, ledger, word_within, words_apart, changed_at, changed_here, changed_else, IsBehind-longer, known_set, Moves, others_moved, reads_later}

-- the first word of another lock stays
pub first_else : (counts : Counts) (ws : List ℕ) (lock word i v j : ℕ) → word ≡ first_word counts lock + i → i < 16 → j ≢ lock
    → slice_index (set ws word v) (first_word counts j) ≡ slice_index ws (first_word counts j)
first_else counts ws lock word i v j place few apart =
    get_or-set_other ws word (first_word counts j) v 0 (λ same. words_apart counts j lock 0 i apart (omega arith) few (omega (arith, same, place)))

-- the nine words of another lock stay
written_else : (counts : Counts) (ws : List ℕ) (lock word i v j : ℕ) (h h' : List Event) (st st' : Stage) → word ≡ first_word counts lock + i → i < 16 → j ≢ lock → h' ≡ h → st' ≡ st
    → IsWritten ws (first_word counts j) h st → IsWritten (set ws word v) (first_word counts j) h' st'
written_else counts ws lock word i v j h h' st st' place few apart same quiet w =
    subst (λ (x : List Event × Stage). IsWritten (set ws word v) (first_word counts j) x.0 x.1) (λ k. (sym same k, sym quiet k))
    (record {
      count = first_else counts ws lock word i v j place few apart ∙ w.count;
      eight = w.eight;
      rest = λ m lt. get_or-set_other ws word (first_word counts j + (m + 1)) v 0
          (λ is. words_apart counts j lock (m + 1) i apart (omega (arith, lt)) few (is ∙ place))
          ∙ w.rest m lt;
    })

-- a step of a lock's owner on one of the lock's words keeps the rule
pub stepped : (counts : Counts) (s : State Unit View) (k : Law counts s) (id lock word i v : ℕ) (h' : ℕ → List Event) (st' : ℕ → Stage) (w : View)
    → word ≡ first_word counts lock + i → i < 16 → k.owner lock ≡ some id
    → Moves counts s.words (set s.words word v) k.history h' k.stage st' lock
    → ((j : ℕ) → IsAccount (first_caller counts) j (k.made j) h')
    → IsWritten (set s.words word v) (first_word counts lock) (h' lock) (st' lock)
    → Knows (ledger counts (set s.words word v) h' st' k.owner k.made) id w
    → IsGrowing counts (set s.words word v) (set s.views id w)
stepped counts s k id lock word i v h' st' w place few owner moves accounts written mine =
    record {
      history = h';
      stage = st';
      owner = k.owner;
      made = k.made;
      wide = length-set s.words word v ∙ k.wide;
      written = λ j below. ⊎_elim
          (λ (is : j ≡ lock). subst (λ (n : ℕ). IsWritten (set s.words word v) (first_word counts n) (h' n) (st' n)) (sym is) written)
          (λ (apart : j ≢ lock). written_else counts s.words lock word i v j (k.history j) (h' j) (k.stage j) (st' j) place few apart (moves.same j apart) (moves.quiet j apart) (k.written j below))
          (same_or_not j lock);
      accounts = accounts;
      known = known_set (ledger counts (set s.words word v) h' st' k.owner k.made) s.views id w
          (λ j u apart e. others_moved counts s.words (set s.words word v) k.history h' k.stage st' k.owner k.made lock id owner moves j u apart (k.known j u e))
          mine;
    }

-- a step that makes the first word greater, and after which the eight further words mean what they meant
pub first_stepped : (counts : Counts) (s : State Unit View) (k : Law counts s) (id : ℕ) (owned : Owned) (history : List Event) (stage : Stage) (v : ℕ)
    → IsOwner (ledger counts s.words k.history k.stage k.owner k.made) id owned
    → IsPrefix owned.history history
    → slice_index s.words owned.word < v
    → v ≡ 2 * length history + turn stage
    → values_of stage history ≡ values_of owned.stage owned.history
    → ((j : ℕ) → IsAccount (first_caller counts) j (k.made j) (changed_at owned.lock history k.history))
    → IsGrowing counts (set s.words owned.word v) (set s.views id (views.Owner (record owned { history = history; stage = stage })))
first_stepped counts s k id owned history stage v mine longer more count same accounts =
    stepped counts s k id lock owned.word 0 v h' st' (views.Owner (record owned { history = history; stage = stage })) place (omega arith) mine.owner
    (record {
      same = λ j apart. changed_else lock history k.history j apart;
      quiet = λ j apart. changed_else lock stage k.stage j apart;
      behind = behind;
      reads = reads_later counts s.words ws k.history h' k.stage st' lock (λ j apart. first_else counts s.words lock owned.word 0 v j place (omega arith) apart)
          (λ j apart. changed_else lock history k.history j apart)
          (subst (λ (n : ℕ). slice_index s.words (first_word counts lock) < n) (sym now) (subst (λ (n : ℕ). slice_index s.words n < v) mine.word more));
    })
    accounts
    (subst (λ (x : List Event × Stage). IsWritten ws (first_word counts lock) x.0 x.1) (λ n. (sym here n, sym there n))
    (record {
      count = now ∙ count;
      eight = ap length values ∙ was.eight;
      rest = λ j lt. get_or-set_other s.words owned.word (first_word counts lock + (j + 1)) v 0 (λ is. omega (arith, is, mine.word))
          ∙ (was.rest j lt ∙ ap (λ (xs : List ℕ). slice_index xs j) (sym values));
    }))
    (record {
      owner = mine.owner;
      lock = mine.lock;
      word = mine.word;
      history = sym here;
      stage = sym there;
      told = behind owned.told mine.told;
      first = mine.first;
      made = mine.made;
      shown = mine.shown;
    })
  where
    lock : ℕ
    lock = owned.lock

    ws : List ℕ
    ws = set s.words owned.word v

    h' : ℕ → List Event
    h' = changed_at lock history k.history

    st' : ℕ → Stage
    st' = changed_at lock stage k.stage

    here : h' lock ≡ history
    here = changed_here lock history k.history

    there : st' lock ≡ stage
    there = changed_here lock stage k.stage

    place : owned.word ≡ first_word counts lock + 0
    place = omega (arith, mine.word)

    was : IsWritten s.words (first_word counts lock) (k.history lock) (k.stage lock)
    was = k.written lock mine.lock

    values : values_of stage history ≡ values_of (k.stage lock) (k.history lock)
    values = same ∙ (λ n. values_of (mine.stage n) (mine.history n))

    within : owned.word < length s.words
    within = omega (arith, place, word_within counts lock 0 mine.lock (omega arith), k.wide)

    now : slice_index ws (first_word counts lock) ≡ v
    now = ap (slice_index ws) (sym mine.word) ∙ get_or-set_same s.words owned.word v 0 within

    behind : (sight : Sight) → IsBehind k.history sight → IsBehind h' sight
    behind sight b = IsBehind-longer lock history k.history sight (subst (λ (xs : List Event). IsPrefix xs history) mine.history longer) b
