use Rattle.std.proofs.Common.{refl}
use Rattle.mc_evidence.proofs.ExampleLemmas.{story_agrees, story_lawful, story_legal}
use Rattle.mc_evidence.proofs.example.a_run_with_an_eviction_agrees.Goals as goal

pub returns : goal.returns
returns c = record { legal = story_legal; lawful = story_lawful; belong = record { item = refl; entry = record { seg = _; entry = _; there = refl; key_is = refl } }; agree = story_agrees }
