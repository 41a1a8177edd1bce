-- The kinds of step on a queue of hits: what each does to the views, and what it tells (own).
use Rattle.std.specs.Prelude.{◌≡◌, ◌+◌, [], ◌∷◌, ◌++◌}
use Rattle.std.specs.List.{Contains}
use Rattle.mc_hits.specs.declared.{rule.Hit.Hit, rule.Held.Held, rule.View.View}
use Rattle.mc_hits.specs.declared.rule.View.TheVariants as views

-- what a hand knows, and for the root the record of caller 0 without hits
abbrev pub held_of : View → Held
held_of (views.Hand held) = held
held_of _ = record { caller = 0; offers = []; takings = [] }

-- the view of the first pass: no caller has a hand
abbrev pub opening : View
opening = views.Root (record { given = 0 })

-- the view after an offer: the hit is the last of the caller's offers
abbrev pub offering : Hit → View → View
offering hit (views.Hand held) = views.Hand (record held { offers = held.offers ++ hit ∷ [] })
offering hit v = v

-- the view after a taking: the hit is the last of the caller's takings
abbrev pub taking : Hit → View → View
taking hit (views.Hand held) = views.Hand (record held { takings = held.takings ++ hit ∷ [] })
taking hit v = v

-- a taking: the caller hadn't taken the hit before
abbrev pub Taken : View → Hit → View → Type 0
Taken v hit w = (w ≡ taking hit v) × ¬ (Contains (held_of v).takings hit)

-- the root after it has given out its next hand
abbrev pub root_after : View → View
root_after (views.Root root) = views.Root (record { given = root.given + 1 })
root_after v = v

-- the hand that the root gives out next
abbrev pub next_hand : View → View
next_hand (views.Root root) = views.Hand (record { caller = root.given; offers = []; takings = [] })
next_hand v = v
