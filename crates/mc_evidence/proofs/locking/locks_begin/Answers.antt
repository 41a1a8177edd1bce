use Rattle.mc_evidence.proofs.LockLemmas.{class_begins, stripe_begins}
use Rattle.mc_evidence.proofs.locking.locks_begin.Goals as goal

pub returns : goal.returns
returns c = record { stripe = stripe_begins; class = class_begins }
