-- What is known of a script's calls may be said by another fact that follows.
use Rattle.std.proofs.Common.{ℕ, List, [], ◌∷◌, Option, inl, inr}
use Rattle.mc_item.specs.declared.fault.Fault.{Fault}
use Rattle.mc_proto.specs.declared.{request.Limits.Limits, request.Request.Request}
use Rattle.mc_script.specs.{Calls.AreBrokenOff, Calls.AreCutOff, Calls.Notes, Exchanges.Exchange, Exchanges.Failure, Exchanges.ScriptCall, Script.Answered, Upkeep.HasBrokenOff, Upkeep.KeepsUp}
use Rattle.mc_script.specs.Run.{HasBroken, HasRun, HasRunTo, HasStopped, Leaves, MayBeCutOff}
use Rattle.mc_script.specs.declared.outcome.Outcome.{Outcome}
use Rattle.mc_script.specs.declared.outcome.Outcome.TheVariants.{Done, Memory, HistoryFull, Input, Output}

module _ (notes notes' : Notes) (caller : ℕ) (follows : (calls : List Exchange) (end : Option Failure) → notes calls end → notes' calls end) where
  broken_off : (fault : Fault) (calls : List ScriptCall) (turn moment : ℕ) (before : List Exchange) → AreBrokenOff fault calls caller turn moment before notes
      → AreBrokenOff fault calls caller turn moment before notes'
  broken_off fault calls turn moment before cut =
      record { answers = cut.answers; kinds = cut.kinds; failure = cut.failure; next = cut.next; noted = follows _ _ cut.noted }

  cut_as : (fault : Fault) (calls : List ScriptCall) (turn moment : ℕ) (before : List Exchange) → AreCutOff fault calls caller turn moment before notes
      → AreCutOff fault calls caller turn moment before notes'
  cut_as fault calls turn moment before (inl cut) = inl (broken_off fault calls turn moment before cut)
  cut_as fault calls turn moment before (inr part) = inr (part.0, record { answers = part.1.answers; kinds = part.1.kinds; noted = follows _ _ part.1.noted })

  may_be_as : (limits : Limits) (back : List Request) (answered : List Answered) → MayBeCutOff limits back answered notes caller → MayBeCutOff limits back answered notes' caller
  may_be_as limits [] answered calls = follows _ _ calls
  may_be_as limits (r ∷ rs) answered cut = (cut.0, cut_as _ _ _ _ _ cut.1)

  module _ (limits : Limits) (start taken : List ℕ) where
    run_as : (bytes : List ℕ) → HasRun limits bytes start taken notes caller → HasRun limits bytes start taken notes' caller
    run_as bytes run = record {
      requests = run.requests;
      rest = run.rest;
      answered = run.answered;
      reads = run.reads;
      asked = run.asked;
      whole = run.whole;
      texts = run.texts;
      calls = follows _ _ run.calls;
    }

    run_to_as : (bytes left : List ℕ) → HasRunTo limits bytes left start taken notes caller → HasRunTo limits bytes left start taken notes' caller
    unfolding run_as
    run_to_as bytes left to = record { came = to.came; split = to.split; run = run_as to.came to.run; none = to.none }

    stopped_as : (fault : Fault) (bytes left : List ℕ) → HasStopped fault limits bytes left start taken notes caller → HasStopped fault limits bytes left start taken notes' caller
    stopped_as fault bytes left stopped = record {
      answered = stopped.answered;
      request = stopped.request;
      back = stopped.back;
      read = stopped.read;
      whole = stopped.whole;
      texts = stopped.texts;
      cut = cut_as _ _ _ _ _ stopped.cut;
    }

    broken_as : (bytes left : List ℕ) → HasBroken limits bytes left start taken notes caller → HasBroken limits bytes left start taken notes' caller
    broken_as bytes left broken = record {
      answered = broken.answered;
      back = broken.back;
      read = broken.read;
      whole = broken.whole;
      texts = broken.texts;
      calls = may_be_as limits broken.back broken.answered broken.calls;
    }

    -- what a run leaves, by how it ended
    pub leaves_as : (outcome : Outcome) (bytes left : List ℕ) → Leaves outcome limits bytes left start taken notes caller → Leaves outcome limits bytes left start taken notes' caller
    unfolding run_as
    leaves_as Done bytes left ended = record { run = run_as bytes ended.run; read = ended.read }
    leaves_as Input bytes left leaves = run_to_as bytes left leaves
    leaves_as Memory bytes left (inl stopped) = inl (stopped_as _ bytes left stopped)
    leaves_as Memory bytes left (inr starved) = inr (record { piece = starved.piece; run = run_to_as bytes _ starved.run })
    leaves_as HistoryFull bytes left leaves = stopped_as _ bytes left leaves
    leaves_as Output bytes left leaves = broken_as bytes left leaves

  module _ (limits : Limits) (work : List Request) where
    broken_off_as : (fault : Fault) → HasBrokenOff fault limits work notes caller → HasBrokenOff fault limits work notes' caller
    broken_off_as fault off = record {
      answered = off.answered;
      request = off.request;
      back = off.back;
      asked = off.asked;
      whole = off.whole;
      cut = broken_off fault _ _ _ _ off.cut;
    }

    -- what upkeep leaves, by how it ended
    pub keeps_up_as : (outcome : Outcome) → KeepsUp outcome limits work notes caller → KeepsUp outcome limits work notes' caller
    keeps_up_as Done kept = record { answered = kept.answered; asked = kept.asked; whole = kept.whole; calls = follows _ _ kept.calls }
    keeps_up_as Memory kept = broken_off_as _ kept
    keeps_up_as HistoryFull kept = broken_off_as _ kept
    keeps_up_as Input kept = kept
    keeps_up_as Output kept = kept
