-- The steps of a token on a lock's words: what each does to the views, and what it ensures (own).
use Rattle.std.specs.Prelude.{◌≡◌, ◌==◌, ℕ, ◌/◌, ◌≤◌, List, [], ◌∷◌, ◌++◌, length, if◌then◌else◌}
use Rattle.atomic_table.specs.Table.{Me, Step}
use Rattle.mc_board.specs.declared.{figures.Figures.Figures, rule.Known.Known, rule.Look.Look, rule.Note.Note, rule.Reading.Reading}
use Rattle.mc_board.specs.declared.{rule.Sight.Sight, rule.View.View}
use Rattle.mc_board.specs.declared.rule.Look.TheVariants as looks
use Rattle.mc_board.specs.declared.rule.View.TheVariants as views
use Rattle.mc_board.specs.Histories.{list_at, number_at, with_figures, with_noted}
use Rattle.mc_board.specs.Steps.{known_of}

-- the note of figures that were read of a lock
abbrev pub note_of : ℕ → Figures → Note
note_of lock f = record { lock = lock; events = f.events; values = f.bytes ++ f.counts }

-- what a token is reading, or a default if it reads nothing
abbrev pub reading_in : Look → Reading
reading_in (looks.Reading reading) = reading
reading_in looks.Away = record { lock = 0; at = 0; got = [] }

-- what a view's token is reading
abbrev pub reading_of : View → Reading
reading_of v = reading_in (known_of v).look

-- the view of a token that has read these figures since its first look
abbrev pub looking : Known → List ℕ → View
looking known got = views.Seen (record known { look = looks.Reading (record (reading_in known.look) { got = got }) })

-- open: the token notes half of the number that it found in the lock's first word, and has read no figure yet
abbrev pub opened_in : ℕ → ℕ → View → View
opened_in lock found (views.Seen known) = views.Seen (record known {
  sight = with_noted known.sight lock (found / 2);
  look = looks.Reading (record { lock = lock; at = found; got = [] });
})
opened_in lock found v = v

-- the number is no less than the length of what the token has seen of the lock, and no less than what it has noted
abbrev pub IsAsLong : ℕ → ℕ → View → Type 0
IsAsLong lock number (views.Seen known) =
    (length (list_at known.sight.seen lock) ≤ number) × (number_at known.sight.noted lock ≤ number)
IsAsLong lock number v = Unit {0}

-- what an opening ensures: the token has noted half of the number, which is no less than what it had seen and noted
abbrev pub Opened : ℕ → Step Unit → Me Unit View → ℕ → Me Unit View → Type 0
Opened lock step me found after = (after ≡ (opened_in lock found me.0, me.1)) × IsAsLong lock (found / 2) me.0

-- what a token is reading after one figure more
abbrev pub look_after : ℕ → Look → Look
look_after found (looks.Reading reading) = looks.Reading (record reading { got = reading.got ++ found ∷ [] })
look_after found looks.Away = looks.Away

-- read: the token has read one figure more
abbrev pub read_in : ℕ → View → View
read_in found (views.Seen known) = views.Seen (record known { look = look_after found known.look })
read_in found v = v

-- what a reading ensures: the token has read one figure more
abbrev pub Read : Step Unit → Me Unit View → ℕ → Me Unit View → Type 0
Read step me found after = after ≡ (read_in found me.0, me.1)

-- the sight after a check: the figures are noted if the number is the one that was found first, otherwise half of the number
abbrev pub sight_after : ℕ → Sight → Look → Sight
sight_after found sight looks.Away = sight
sight_after found sight (looks.Reading reading) =
    if found == reading.at
    then with_figures sight (record { lock = reading.lock; events = reading.at / 2; values = reading.got })
    else with_noted sight reading.lock (found / 2)

-- check: the token notes the figures if they are of one moment, and reads nothing any more
abbrev pub checked_in : ℕ → View → View
checked_in found (views.Seen known) = views.Seen (record known { sight = sight_after found known.sight known.look; look = looks.Away })
checked_in found v = v

-- what a check ensures: the token has noted the figures if they are of one moment; the number is no less than the first
abbrev pub Checked : Step Unit → Me Unit View → ℕ → Me Unit View → Type 0
Checked step me found after = (after ≡ (checked_in found me.0, me.1)) × ((reading_of me.0).at ≤ found)
