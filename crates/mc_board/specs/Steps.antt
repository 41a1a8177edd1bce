-- The steps on the board that compare, split and join: what each does to the views, and what it ensures (own).
use Rattle.std.specs.Prelude.{◌≡◌, ℕ, ◌+◌, []}
use Rattle.atomic_table.specs.Table.{Me, Step}
use Rattle.mc_board.specs.declared.{rule.Account.Account, rule.Counts.Counts, rule.Known.Known, rule.Owned.Owned, rule.Sight.Sight}
use Rattle.mc_board.specs.declared.{rule.Span.Span, rule.View.View}
use Rattle.mc_board.specs.declared.rule.Look.TheVariants as looks
use Rattle.mc_board.specs.declared.rule.Stage.TheVariants as stages
use Rattle.mc_board.specs.declared.rule.View.TheVariants as views
use Rattle.mc_board.specs.Accounts.{first_caller, with_span, IsAccount}
use Rattle.mc_board.specs.Histories.{blind, list_at, with_seen, AreInLine, IsAhead}
use Rattle.mc_board.specs.Views.{first_word}

-- what the owner of a lock with this first word knows at the start: its history is empty, and nothing was made or shown
abbrev pub new_owned : ℕ → ℕ → ℕ → Owned
new_owned first lock word =
    record {
      lock = lock;
      word = word;
      history = [];
      stage = stages.Still;
      told = blind;
      first = first;
      made = [];
      shown = record { first = first; lock = 0; made = [] };
    }

-- what an owner knows, or a default for any other view
abbrev pub owned_of : View → Owned
owned_of (views.Owner owned) = owned
owned_of _ = new_owned 0 0 0

-- what a token knows, or nothing for any other view
abbrev pub known_of : View → Known
known_of (views.Seen known) = known
known_of _ = record { sight = blind; told = blind; look = looks.Away }

-- the root's view at the start, when no owner is given out
abbrev pub opening_of : Counts → View
opening_of counts = views.Root (record { counts = counts; given = 0 })

-- the view of a token that has seen nothing
abbrev pub newcomer : View
newcomer = views.Seen (record { sight = blind; told = blind; look = looks.Away })

-- the view of a token that has seen this, and was shown nothing
abbrev pub seeing : Sight → View
seeing sight = views.Seen (record { sight = sight; told = blind; look = looks.Away })

-- the view of a lock's owner at the start
abbrev pub owning : ℕ → ℕ → ℕ → View
owning first lock word = views.Owner (new_owned first lock word)

-- what an owner knows after a token showed it this sight
abbrev pub owned_told : Owned → Sight → Owned
owned_told owned sight = record owned { told = sight }

-- what a token knows after another showed it this sight
abbrev pub known_told : Known → Sight → Known
known_told known sight = record known { told = sight }

-- what an owner was shown of its own lock is behind its history, and what it was shown of any lock is in its account, as far as
-- its caller made it
abbrev pub IsOwnerAhead : View → Type 0
IsOwnerAhead (views.Owner owned) =
    IsAhead owned.history owned.told owned.lock × IsAccount owned.first owned.lock owned.made (list_at owned.told.seen)
IsOwnerAhead v = Unit {0}

-- what an owner's comparison ensures: nothing changes, and its history and account are ahead of what it was shown
abbrev pub Compared : Step Unit → Me Unit View → ℕ → Me Unit View → Type 0
Compared step me found after = (after ≡ me) × IsOwnerAhead me.0

-- what a token has seen and what it was shown are in line
abbrev pub IsInLine : View → Type 0
IsInLine (views.Seen known) = AreInLine known.sight known.told
IsInLine v = Unit {0}

-- what a meeting ensures: nothing changes, and what the token has seen and what it was shown are in line
abbrev pub Met : Step Unit → Me Unit View → ℕ → Me Unit View → Type 0
Met step me found after = (after ≡ me) × IsInLine me.0

-- the root's view after it has given out the next owner
abbrev pub root_after : View → View
root_after (views.Root root) = views.Root (record root { given = root.given + 1 })
root_after v = v

-- the view of the owner that the root gives out next
abbrev pub next_owner : View → View
next_owner (views.Root root) = owning (first_caller root.counts) root.given (first_word root.counts root.given)
next_owner v = views.Spent

-- split: the view of a second token, which has seen and noted the same
abbrev pub copy_of : View → View
copy_of (views.Seen known) = seeing known.sight
copy_of v = views.Spent

-- tell: the view of a token that has seen what the owner was shown, and the owner's whole history
abbrev pub told_of : View → View
told_of (views.Owner owned) = seeing (with_seen owned.told owned.lock owned.history)
told_of v = views.Spent

-- join: an owner or a token is shown what a token's copy has seen
abbrev pub hearing : View → View → View
hearing (views.Owner owned) (views.Seen other) = views.Owner (owned_told owned other.sight)
hearing (views.Seen known) (views.Seen other) = views.Seen (known_told known other.sight)
hearing v w = v

-- what a caller's owner knows after it has entered these events in its account
abbrev pub owned_entered : Owned → Span → Owned
owned_entered owned span = record owned { made = with_span owned.made span }

-- the account of an owner's caller
abbrev pub account_of : Owned → Account
account_of owned = record { first = owned.first; lock = owned.lock; made = owned.made }

-- enter: a caller's account gains these events
abbrev pub entered : Span → View → View
entered span (views.Owner owned) = views.Owner (owned_entered owned span)
entered span v = v

-- the copy of the account that is then given out
abbrev pub entered_copy : Span → View → View
entered_copy span (views.Owner owned) = views.Account (account_of (owned_entered owned span))
entered_copy span v = views.Spent

-- what an owner knows after it was shown this account
abbrev pub owned_shown : Owned → Account → Owned
owned_shown owned account = record owned { shown = account }

-- join: an owner is shown a copy of an account
abbrev pub showing : View → View → View
showing (views.Owner owned) (views.Account account) = views.Owner (owned_shown owned account)
showing v w = v

-- a view that no seat has: the word of an owner's lock is never 0
abbrev pub no_view : View
no_view = owning 0 0 0

-- what a step that no seat can make ensures: it never happens
abbrev pub NeverHappens : Step Unit → Me Unit View → ℕ → Me Unit View → Type 0
NeverHappens step me found after = ⊥
