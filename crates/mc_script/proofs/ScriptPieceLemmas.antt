-- What a piece leaves: the script goes on, or ends there.
use Rattle.std.proofs.Common.{◌≡◌, ℕ, List, [], ◌∷◌, ◌++◌, refl, sym, ap, ◌∙◌, append_assoc, append-nil, Bool, subst, false}
use Rattle.std.specs.Prelude.{None, if◌then◌else◌}
use Rattle.mc_item.specs.declared.fault.Fault.{Fault}
use Rattle.mc_item.specs.declared.fault.Fault.TheVariants as faults
use Rattle.mc_proto.specs.Text.{IsBeginning}
use Rattle.mc_proto.specs.declared.{request.Limits.Limits, request.Request.Request}
use Rattle.mc_proto.proofs.{KeptRestLemmas.after_reads, StreamLemmas.stream_reads, StreamLemmas.reading_on}
use Rattle.mc_script.specs.{Calls.CallsView, Calls.Notes, Progress.EndsHere, Progress.FailsHere, Progress.Goes, Progress.AnswersWhole, Progress.HasAnswered, Progress.HasCome}
use Rattle.mc_script.specs.Run.{HasBroken, HasEnded, HasRead, HasRun, HasStopped, MayBeCutOff, NoneEnds, first_moment}
use Rattle.mc_script.specs.Script.{Answered, all_exchanges, ends, own_requests, requests_of, texts_of}
use Rattle.mc_script.specs.declared.scripting.Progress.{Progress}
use Rattle.mc_script.specs.declared.scripting.Progress.TheVariants as progress
use Rattle.mc_script.proofs.{MadeCallLemmas.cut_none, ProgressLemmas.printed_more, ProgressLemmas.requests_of-append}

-- requests none of which ends the script are its own, and so are those behind them
own_requests-append : (front back : List Request) → NoneEnds front → own_requests (front ++ back) ≡ front ++ own_requests back
own_requests-append [] back own = refl
own_requests-append (r ∷ rs) back own =
    ap (λ (b : Bool). if b then [] else r ∷ own_requests (rs ++ back)) own.0 ∙ ap (λ (t : List Request). r ∷ t) (own_requests-append rs back own.1)

-- all of them
pub own_requests-all : (all : List Request) → NoneEnds all → own_requests all ≡ all
own_requests-all all own = sym (ap own_requests (append-nil all)) ∙ own_requests-append all [] own ∙ append-nil all

-- one that doesn't end the script is its own
own_requests-one : (r : Request) (rs : List Request) → ends r ≡ false → own_requests (r ∷ rs) ≡ r ∷ own_requests rs
own_requests-one r rs own = ap (λ (b : Bool). if b then [] else r ∷ own_requests rs) own

-- one that ends the script is the last
own_requests-ends : (back others : List Request) → EndsHere back → own_requests (back ++ others) ≡ []
own_requests-ends (r ∷ rs) others last = ap (λ (b : Bool). if b then [] else r ∷ own_requests (rs ++ others)) last
own_requests-ends [] others last = absurd last

pub NoneEnds-append : (front back : List Request) → NoneEnds front → NoneEnds back → NoneEnds (front ++ back)
NoneEnds-append [] back first second = second
NoneEnds-append (r ∷ rs) back first second = (first.0, NoneEnds-append rs back first.1 second)

-- all that was gathered is printed now
now_printed : (printed start taken text taken' : List ℕ) (texts : List ℕ) → taken ≡ start ++ printed → printed ++ text ≡ texts → taken' ≡ taken ++ text → taken' ≡ start ++ texts
now_printed printed start taken text taken' texts took is out = out ∙ ap (λ (t : List ℕ). t ++ text) took ∙ append_assoc start printed text ∙ ap (λ (t : List ℕ). start ++ t) is

-- or a beginning of it
now_torn : (printed start taken text taken' : List ℕ) (texts : List ℕ) → taken ≡ start ++ printed → printed ++ text ≡ texts → IsBeginning taken taken' text → IsBeginning start taken' texts
now_torn printed start taken text taken' texts took is by = (
  printed ++ by.0,
  by.1,
  sym is ∙ ap (λ (t : List ℕ). printed ++ t) by.2 ∙ sym (append_assoc printed by.0 by.1),
  by.3 ∙ ap (λ (t : List ℕ). t ++ by.0) took ∙ append_assoc start printed by.0,
)

-- no call of the next request was made
none_begun : (limits : Limits) (back : List Request) (done : List Answered) (notes : Notes) (caller : ℕ) → notes (all_exchanges limits caller 0 first_moment done) None
    → MayBeCutOff limits back done notes caller
none_begun limits [] done notes caller all = all
none_begun limits (r ∷ rs) done notes caller all = (faults.NoMemory, cut_none (all_exchanges limits caller 0 first_moment done) all)

-- the requests before the one that ends the script are those in what came
read_ended : (limits : Limits) (bytes left : List ℕ) (answered : List Answered) (back : List Request) → HasRead limits bytes left (requests_of answered ++ own_requests back) → EndsHere back
    → HasRead limits bytes left (requests_of answered)
read_ended limits bytes left answered back read last =
    let none : own_requests back ≡ [] = sym (ap own_requests (append-nil back)) ∙ own_requests-ends back [] last in
    subst (HasRead limits bytes left) (ap (λ (t : List Request). requests_of answered ++ t) none ∙ append-nil (requests_of answered)) read

-- a request failed, and the texts before it are out
failed_stops : (fault : Fault) (limits : Limits) (bytes left start taken text taken' : List ℕ) (now : CallsView) (done : List Answered) (back : List Request)
    → HasRead limits bytes left (requests_of done ++ own_requests back) → FailsHere fault limits back done start taken text now
    → taken' ≡ taken ++ text → HasStopped fault limits bytes left start taken' now.notes now.caller
failed_stops fault limits bytes left start taken text taken' now done [] read has out = absurd has
failed_stops fault limits bytes left start taken text taken' now done (r ∷ rs) read has out = record {
  answered = done;
  request = r;
  back = own_requests rs;
  read = subst (λ (t : List Request). HasRead limits bytes left (requests_of done ++ t)) (own_requests-one r rs has.own) read;
  whole = has.whole;
  texts = now_printed has.printed start taken text taken' (texts_of done) has.took has.texts out;
  cut = has.cut;
}

-- a request failed, and then the sink
failed_breaks : (fault : Fault) (limits : Limits) (bytes left start taken text taken' : List ℕ) (now : CallsView) (done : List Answered) (back : List Request)
    → HasRead limits bytes left (requests_of done ++ own_requests back) → FailsHere fault limits back done start taken text now
    → IsBeginning taken taken' text → HasBroken limits bytes left start taken' now.notes now.caller
failed_breaks fault limits bytes left start taken text taken' now done [] read has by = absurd has
failed_breaks fault limits bytes left start taken text taken' now done (r ∷ rs) read has by = record {
  answered = done;
  back = r ∷ own_requests rs;
  read = subst (λ (t : List Request). HasRead limits bytes left (requests_of done ++ t)) (own_requests-one r rs has.own) read;
  whole = has.whole;
  texts = now_torn has.printed start taken text taken' (texts_of done) has.took has.texts by;
  calls = (fault, has.cut);
}

-- requests were answered, and then the sink failed
answered_breaks : (limits : Limits) (bytes left start taken text taken' : List ℕ) (now : CallsView) (moment : ℕ) (done : List Answered) (back : List Request)
    → HasRead limits bytes left (requests_of done ++ own_requests back) → HasAnswered limits done start taken text now moment
    → IsBeginning taken taken' text → HasBroken limits bytes left start taken' now.notes now.caller
answered_breaks limits bytes left start taken text taken' now moment done back read has by = record {
  answered = done;
  back = own_requests back;
  read = read;
  whole = has.whole;
  texts = now_torn has.printed start taken text taken' (texts_of done) has.took has.texts by;
  calls = none_begun limits (own_requests back) done now.notes now.caller has.notes_all;
}

-- all requests of a piece were answered, and the script goes on
pub piece_goes_on : {limits : Limits} {start taken text taken' text' : List ℕ} {now : CallsView} {moment : ℕ} {done : List Answered} {added : List Request}
    → Goes progress.More limits added done start taken text now moment → taken' ≡ taken ++ text → text' ≡ [] → AnswersWhole limits start taken' text' now moment done added
piece_goes_on {limits = limits} {start = start} {taken = taken} {text = text} {done = done} g out none =
    let all = g.split ∙ ap (λ (t : List Request). g.front ++ t) g.state.0 ∙ append-nil g.front in
    record {
      own = subst NoneEnds (sym all) g.own;
      out = none;
      all = done ++ g.added;
      asked = requests_of-append done g.added ∙ ap (λ (t : List Request). requests_of done ++ t) (g.asked ∙ sym all);
      state_of = printed_more g.state.1 (text, out, sym (append-nil text) ∙ ap (λ (t : List ℕ). text ++ t) (sym none));
    }

-- a piece came, and its requests were answered up to some progress, whatever is still left
module _ {limits : Limits} {came start taken text : List ℕ} {now : CallsView} {moment : ℕ} {done : List Answered} {added : List Request}
    (come : HasCome limits came done added) (left : List ℕ) where
  -- what was read, where the first of these requests were answered
  come_read : {p : Progress} (g : Goes p limits added done start taken text now moment)
      → HasRead limits (came ++ left) left (requests_of (done ++ g.added) ++ own_requests g.back)
  come_read g =
      let read = after_reads limits come.state come.unread came (come.requests ++ added) come.after in
      record {
        came = came;
        split = refl;
        requests = come.requests ++ added;
        rest = read.0;
        reads = read.1;
        own_are = own_requests-append come.requests added come.own ∙ ap (λ (t : List Request). come.requests ++ own_requests t) g.split
            ∙ ap (λ (t : List Request). come.requests ++ t) (own_requests-append g.front g.back g.own)
            ∙ sym (append_assoc come.requests g.front (own_requests g.back)) ∙ ap (λ (t : List Request). (t ++ g.front) ++ own_requests g.back) (sym come.asked)
            ∙ ap (λ (t : List Request). (requests_of done ++ t) ++ own_requests g.back) (sym g.asked)
            ∙ ap (λ (t : List Request). t ++ own_requests g.back) (sym (requests_of-append done g.added));
      }

  -- all requests before the one that ends the script were answered
  abbrev piece_runs : {taken' : List ℕ} → Goes progress.Ended limits added done start taken text now moment → taken' ≡ taken ++ text
      → HasRun limits (came ++ left) start taken' now.notes now.caller
  piece_runs {taken' = taken'} g out =
      let whole = stream_reads limits (came ++ left) in
      let on = reading_on limits came left come.after.rest whole.1 (come.requests ++ added) whole.0 come.after.spelt whole.2 in
      let cut_at = on.1 ∙ append_assoc come.requests added on.0 ∙ ap (λ (t : List Request). come.requests ++ (t ++ on.0)) g.split
      ∙ ap (λ (t : List Request). come.requests ++ t) (append_assoc g.front g.back on.0) in
      record {
        requests = whole.0;
        rest = whole.1;
        answered = done ++ g.added;
        reads = whole.2;
        asked = requests_of-append done g.added ∙ ap (λ (t : List Request). t ++ requests_of g.added) come.asked ∙ ap (λ (t : List Request). come.requests ++ t) (g.asked ∙ sym (append-nil g.front))
            ∙ ap (λ (t : List Request). come.requests ++ (g.front ++ t)) (sym (own_requests-ends g.back on.0 g.state.0))
            ∙ ap (λ (t : List Request). come.requests ++ t) (sym (own_requests-append g.front (g.back ++ on.0) g.own))
            ∙ sym (own_requests-append come.requests (g.front ++ (g.back ++ on.0)) come.own) ∙ ap own_requests (sym cut_at);
        whole = g.state.1.whole;
        texts = now_printed g.state.1.printed start taken text taken' (texts_of (done ++ g.added)) g.state.1.took g.state.1.texts out;
        calls = g.state.1.notes_all;
      }

  -- the script ended in the piece
  pub piece_ended : {taken' : List ℕ} → Goes progress.Ended limits added done start taken text now moment → taken' ≡ taken ++ text
      → HasEnded limits (came ++ left) left start taken' now.notes now.caller
  piece_ended g out = record { run = piece_runs g out; read = read_ended limits (came ++ left) left (done ++ g.added) g.back (come_read g) g.state.0 }

  -- the sink failed within the piece
  pub piece_torn : Goes progress.Output limits added done start taken text now moment → HasBroken limits (came ++ left) left start taken now.notes now.caller
  piece_torn g = record {
    answered = done ++ g.added;
    back = own_requests g.back;
    read = come_read g;
    whole = g.state.whole;
    texts = g.state.texts;
    calls = none_begun limits (own_requests g.back) (done ++ g.added) now.notes now.caller g.state.notes_all;
  }

  -- a request failed for want of memory
  pub piece_memory : {taken' : List ℕ} → Goes progress.Memory limits added done start taken text now moment → taken' ≡ taken ++ text
      → HasStopped faults.NoMemory limits (came ++ left) left start taken' now.notes now.caller
  piece_memory g out = failed_stops faults.NoMemory limits (came ++ left) left start taken text _ now (done ++ g.added) g.back (come_read g) g.state out

  -- or since the history is full
  pub piece_full : {taken' : List ℕ} → Goes progress.Full limits added done start taken text now moment → taken' ≡ taken ++ text
      → HasStopped faults.HistoryFull limits (came ++ left) left start taken' now.notes now.caller
  piece_full g out = failed_stops faults.HistoryFull limits (came ++ left) left start taken text _ now (done ++ g.added) g.back (come_read g) g.state out

  -- the sink failed behind the piece
  pub piece_breaks : {taken' : List ℕ} (p : Progress) → Goes p limits added done start taken text now moment → (p ≡ progress.Output → ⊥)
      → IsBeginning taken taken' text → HasBroken limits (came ++ left) left start taken' now.notes now.caller
  piece_breaks progress.More g not by = answered_breaks limits (came ++ left) left start taken text _ now moment (done ++ g.added) g.back (come_read g) g.state.1 by
  piece_breaks progress.Ended g not by = answered_breaks limits (came ++ left) left start taken text _ now moment (done ++ g.added) g.back (come_read g) g.state.1 by
  piece_breaks progress.Memory g not by = failed_breaks faults.NoMemory limits (came ++ left) left start taken text _ now (done ++ g.added) g.back (come_read g) g.state by
  piece_breaks progress.Full g not by = failed_breaks faults.HistoryFull limits (came ++ left) left start taken text _ now (done ++ g.added) g.back (come_read g) g.state by
  piece_breaks progress.Output g not by = absurd (not refl)
