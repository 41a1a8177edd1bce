-- What a source counts after a fault.
use Rattle.std.specs.Prelude.{ℕ, ◌≡◌, ◌<◌}
use Rattle.mc_script.specs.declared.source.SourceFault.{SourceFault}
use Rattle.mc_script.specs.declared.source.SourceFault.TheVariants.{Failed, NoMemory}

-- how many failed reads a source counts after a fault: more after a failed read, as many as before after want of memory
abbrev pub CountsRead : SourceFault → ℕ → ℕ → Type 0
CountsRead Failed before after = before < after
CountsRead NoMemory before after = after ≡ before
