-- How a run starts, goes on from piece to piece, and ends.
use Rattle.std.proofs.Common.{◌≡◌, ℕ, List, [], ◌∷◌, ◌++◌, refl, sym, ap, ◌∙◌, append_assoc, append-nil, arith, subst, suc}
use Rattle.std.specs.Prelude.{All, None}
use Rattle.mc_proto.specs.{Grammar.IsModerate, Reader.After}
use Rattle.mc_proto.specs.declared.{request.Limits.Limits, request.Request.Request, state.State.State}
use Rattle.mc_proto.proofs.KeptRestLemmas.{after_reads}
use Rattle.mc_script.specs.{Calls.CallsView, Progress.AreModerate, Progress.AnswersWhole, Progress.AsksNothing, Progress.HasAnswered, Progress.HasCome, Script.Answered, Script.requests_of, Script.texts_of}
use Rattle.mc_script.specs.Run.{HasEnded, HasRun, HasRunTo, HasStarved, IsOut, NoneEnds, first_moment}
use Rattle.mc_script.proofs.ScriptPieceLemmas.{own_requests-all, NoneEnds-append}

-- a run between two pieces of its input: all requests in the bytes that came were answered, and none of them ends the script
pub record IsOnWay (limits : Limits) (state : State) (unread came start taken text : List ℕ) (now : CallsView) (moment : ℕ) : Type 0 where
  pub requests : List Request
  pub done : List Answered
  pub after : After limits state unread came requests
  pub own : NoneEnds requests
  pub asked : requests_of done ≡ requests
  pub state_of : HasAnswered limits done start taken text now moment

-- from the second state to the third no bytes came
pub since_none : {E : Type 0} {gave : E → E → List ℕ → Type 0} {first second third : E} {came : List ℕ}
    → ((first second third : E) (came more : List ℕ) → gave first second came → gave second third more → gave first third (came ++ more))
    → gave first second came → gave second third [] → gave first third came
since_none {gave = gave} {first = first} {third = third} {came = came} goes_on one two = subst (gave first third) (append-nil came) (goes_on _ _ _ came [] one two)

-- nothing was asked in two steps
pub asks_both : {E : Type 0} {gave : E → E → List ℕ → Type 0} {reads over : E → ℕ} {first second third : E}
    → ((first second third : E) (came more : List ℕ) → gave first second came → gave second third more → gave first third (came ++ more))
    → AsksNothing gave reads over first second → AsksNothing gave reads over second third → AsksNothing gave reads over first third
asks_both goes_on one two = record {
  came = goes_on _ _ _ [] [] one.came two.came;
  same_reads = two.same_reads ∙ one.same_reads;
  same_over = two.same_over ∙ one.same_over;
}

-- before the first piece
pub way_starts : {limits : Limits} {state : State} {unread start text : List ℕ} {now : CallsView} {moment : ℕ}
    → After limits state unread [] [] → text ≡ [] → now.turn ≡ 0 → moment ≡ first_moment → now.notes [] None
    → IsOnWay limits state unread [] start start text now moment
way_starts {start = start} after none first early nothing = record {
  requests = [];
  done = [];
  after = after;
  own = tt;
  asked = refl;
  state_of = record { whole = tt; printed = []; took = sym (append-nil start); texts = none; notes_all = nothing; turn_is = first; moment_is = early };
}

-- between two pieces all texts are out
module _ {limits : Limits} {state : State} {unread came start taken text : List ℕ} {now : CallsView} {moment : ℕ}
    (way : IsOnWay limits state unread came start taken text now moment) (none : text ≡ []) where
  -- all that was gathered is printed
  all_printed : taken ≡ start ++ texts_of way.done
  all_printed = way.state_of.took ∙ ap (λ (t : List ℕ). start ++ t)
      (sym (append-nil way.state_of.printed) ∙ ap (λ (t : List ℕ). way.state_of.printed ++ t) (sym none) ∙ way.state_of.texts)

  -- all requests of the bytes that came were answered
  abbrev way_done : HasRun limits came start taken now.notes now.caller
  way_done =
      let read = after_reads limits state unread came way.requests way.after in
      record {
        requests = way.requests;
        rest = read.0;
        answered = way.done;
        reads = read.1;
        asked = way.asked ∙ sym (own_requests-all way.requests way.own);
        whole = way.state_of.whole;
        texts = all_printed;
        calls = way.state_of.notes_all;
      }

  -- the next piece may be asked for
  pub way_out : IsOut limits came start taken
  way_out = record {
    requests = way.requests;
    rest = way_done.rest;
    reads = way_done.reads;
    own = way.own;
    answered = way.done;
    asked = way.asked;
    whole = way.state_of.whole;
    texts = all_printed;
  }

  -- the source has ended
  pub way_ends : {left : List ℕ} → left ≡ [] → HasEnded limits (came ++ left) left start taken now.notes now.caller
  way_ends over =
      rw (over, append-nil) (record {
        run = way_done;
        read = record {
          came = came;
          split = sym (append-nil came);
          requests = way.requests;
          rest = way_done.rest;
          reads = way_done.reads;
          own_are = own_requests-all way.requests way.own ∙ sym way.asked;
        };
      })

  -- the source has failed
  pub way_runs_out : (left : List ℕ) → HasRunTo limits (came ++ left) left start taken now.notes now.caller
  way_runs_out left = record { came = came; split = refl; run = way_done; none = way.own }

  -- there was no memory for a piece
  pub way_starves : (piece left : List ℕ) → HasStarved limits ((came ++ piece) ++ left) left start taken now.notes now.caller
  way_starves piece left = record { piece = piece; run = rw append_assoc (way_runs_out (piece ++ left)) }

  -- a piece came
  unfoldable pub way_comes : {first second : Limits} {next : State} {later piece : List ℕ} {added : List Request} → first ≡ limits → second ≡ first
      → ((stream : List ℕ) (requests : List Request) → After first state unread stream requests → After second next later (stream ++ piece) (requests ++ added))
      → HasCome limits (came ++ piece) way.done added
  way_comes {next = next} {later = later} {piece = piece} {added = added} one two step = record {
    requests = way.requests;
    state = next;
    unread = later;
    after = subst (λ (l : Limits). After l next later (came ++ piece) (way.requests ++ added)) (two ∙ one)
        (step came way.requests (subst (λ (l : Limits). After l state unread came way.requests) (sym one) way.after));
    own = way.own;
    asked = way.asked;
  }

-- and the script goes on
pub way_goes_on : {limits : Limits} {came start taken text : List ℕ} {now : CallsView} {moment : ℕ} {done : List Answered} {added : List Request}
    → (come : HasCome limits came done added) → AnswersWhole limits start taken text now moment done added
    → IsOnWay limits come.state come.unread came start taken text now moment
way_goes_on {added = added} come on = record {
  requests = come.requests ++ added;
  done = on.all;
  after = come.after;
  own = NoneEnds-append come.requests added come.own on.own;
  asked = on.asked ∙ ap (λ (t : List Request). t ++ added) come.asked;
  state_of = on.state_of;
}

-- each of all these sets no moment that is too late, and names no class that isn't there
pub moderate_are : (limits : Limits) (rs : List Request) → All (IsModerate limits) rs → AreModerate limits rs
moderate_are limits [] all = tt
moderate_are limits (r ∷ rs) all = (all 0 r (omega arith), moderate_are limits rs (λ k d below. all (suc k) d (omega arith)))
