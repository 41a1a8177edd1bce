-- What a token has seen after it has learnt what another has seen (own).
use Rattle.std.specs.Prelude.{◌≡◌, ℕ, List, [], ◌∷◌}
use Rattle.atomic_table.specs.Table.{Me, Step}
use Rattle.mc_item.specs.declared.event.Event.{Event}
use Rattle.mc_board.specs.declared.{rule.Sight.Sight, rule.Known.Known, rule.View.View}
use Rattle.mc_board.specs.declared.rule.View.TheVariants as views
use Rattle.mc_board.specs.Histories.{Grows}

-- a list, followed by what another list has beyond its length
abbrev pub joined : List Event → List Event → List Event
joined [] ys = ys
joined (x ∷ xs) [] = x ∷ xs
joined (x ∷ xs) (y ∷ ys) = x ∷ joined xs ys

-- for each lock, the two lists joined
abbrev pub all_joined : List (List Event) → List (List Event) → List (List Event)
all_joined [] b = b
all_joined (x ∷ a) [] = x ∷ a
all_joined (x ∷ a) (y ∷ b) = joined x y ∷ all_joined a b

-- the sight after learning another: for each lock the two seen lists joined, and what was noted as it was
abbrev pub with_learned : Sight → Sight → Sight
with_learned sight other = record sight { seen = all_joined sight.seen other.seen }

-- what a token knows after it has learnt what it was shown
abbrev pub known_learned : Known → Known
known_learned known = record known { sight = with_learned known.sight known.told }

-- learning: a token has then seen what it was shown, and other views stay as they are
abbrev pub learned_of : View → View
learned_of (views.Seen known) = views.Seen (known_learned known)
learned_of v = v

-- after learning, a token has seen all that it had seen and all that it was shown
abbrev pub IsLearned : View → Type 0
IsLearned (views.Seen known) = Grows known.sight (known_learned known).sight × Grows known.told (known_learned known).sight
IsLearned v = Unit {0}

-- what learning ensures: the view is the learnt one, in which the token has seen all that either had
abbrev pub Learned : Step Unit → Me Unit View → ℕ → Me Unit View → Type 0
Learned step me found after = (after ≡ (learned_of me.0, me.1)) × IsLearned me.0
