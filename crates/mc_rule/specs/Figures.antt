-- A class's figures: how many bytes and how many entries each of its lists has.
use Rattle.std.specs.Prelude.{ℕ, List, [], ◌∷◌, length}
use Rattle.mc_item.specs.declared.lists.Seg.TheVariants.{Hot, Warm, Cold, Temp}
use Rattle.mc_rule.specs.Lists.{Lists, bytes_of}

-- the bytes of HOT, WARM, COLD and TEMP, then their numbers of entries
abbrev pub figures_of_lists : Lists → List ℕ
figures_of_lists l =
    bytes_of l Hot ∷ bytes_of l Warm ∷ bytes_of l Cold ∷ bytes_of l Temp
    ∷ length l.hot ∷ length l.warm ∷ length l.cold ∷ length l.temp ∷ []
