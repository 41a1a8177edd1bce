-- A hit is taken to a class: what its look tells, and what the class's history has more.
use Rattle.std.proofs.Common.{◌≡◌, ◌≢◌, ℕ, false, length, List, [], ◌∷◌, ◌++◌, Option, Some, None, refl, sym, ap, ◌∙◌, subst}
use Rattle.std.specs.Prelude.{IsSome}
use Rattle.mc_item.specs.declared.{class_event.ClassEvent.ClassEvent, config.Config.Config, item.StripeNo.StripeNo, item.Who.Who, lists.Entry.Entry, lists.Seg.Seg}
use Rattle.mc_item.specs.declared.lists.Seg.TheVariants.{Cold}
use Rattle.mc_item.specs.{Cache.Cache, Measure.stripe_of}
use Rattle.mc_rule.specs.{Lawful.IsIn, Lists.Lists, Lists.find, Lists.lists_of, Lists.segment_of}
use Rattle.mc_segment.specs.{ClassState.ClassView, Entries.entry_of}
use Rattle.mc_stripe.specs.StripeState.{cache_now}
use Rattle.mc_pull.specs.declared.{judge.Done.Done, judge.Judge.TheVariants.Hit, looking.Judged.Judged}
use Rattle.mc_pull.specs.declared.judge.Done.TheVariants as done
use Rattle.mc_pull.specs.Advance.{IsAdvance, IsAdvanceOf, is_to_warm_if}
use Rattle.mc_pull.specs.{Judgement.done_with, Rounds.rounds, Walk.class_at}
use Rattle.mc_pull.specs.{Looks.IsJudgedIf, Looks.answer_by, Looks.done_in, Looks.events_if, Looks.judged_by, Question.Question, Question.question, Settled.done_class_events}
use Rattle.mc_pull.specs.Settled.{class_with}

some_same : {A : Type 0} (a b : A) → Some a ≡ Some b → a ≡ b
some_same a b h = cc

-- ---- the list of a number
is_none : (o : Option Entry) → (IsSome o → ⊥) → None ≡ o
is_none None away = refl
is_none (Some e) away = absurd (away refl)

-- a number of another segment has none in COLD
pub not_in_cold : (l : Lists) (n : ℕ) (s : Seg) → s ≢ Cold → segment_of n l ≡ Some s → (IsIn Cold n l → segment_of n l ≡ Some Cold) → None ≡ find n l.cold
not_in_cold l n s apart is law = is_none (find n l.cold) (λ there. apart (some_same s Cold (sym is ∙ law there)))

-- ---- an entry that was looked at
module _ (c : ClassView) (who : Who) (number moment : ℕ) (config : Config) where
  abbrev hit : Question
  hit = question who number Hit moment

  abbrev here : ClassView
  here = class_at c c.history

  -- the class's room doesn't matter
  done_here : (cache : Cache) (o : Option Entry) → done_with here cache hit o ≡ done_with c cache hit o
  done_here cache None = refl
  done_here cache (Some e) = refl

  judged_here : (stripe : StripeNo) (j : Option Judged) → IsJudgedIf config stripe c hit j → IsJudgedIf config stripe here hit j
  judged_here stripe None told = tt
  judged_here stripe (Some j) told = record {
    legal = told.legal;
    of = told.of;
    number_is = told.number_is;
    done_is = told.done_is ∙ sym (done_here (cache_now (judged_by j)) (entry_of number (lists_of c.history)));
  }

  events_here : (at : ℕ) (d : Done) → done_class_events c hit at d ≡ done_class_events here hit at d
  events_here at done.Reclaimed = refl
  events_here at done.ToWarm = refl
  events_here at done.WithinWarm = refl
  events_here at done.ToCold = refl
  events_here at done.Evicted = refl
  events_here at done.Stayed = refl
  events_here at (done.Alive expiry) = refl
  events_here at done.Stranger = refl

  events_if_here : (j : Option Judged) → events_if c hit j ≡ events_if here hit j
  events_if_here None = refl
  events_if_here (Some j) = events_here (length (judged_by j).history) j.done

  -- an answer to the look
  pub advanced : (c_new : ClassView) (e : Entry) (stripe : StripeNo) (j : Option Judged) → find number (lists_of c.history).cold ≡ Some e → stripe ≡ stripe_of e.key config.stripes
      → c_new ≡ class_with c (events_if c hit j) c_new.room → IsJudgedIf config stripe c hit j
      → IsAdvance (rounds c who moment config) number c.history (answer_by stripe j ∷ []) c_new.history (is_to_warm_if (done_in j))
  advanced c_new e stripe j is place class told =
      subst (IsAdvanceOf config here hit (answer_by stripe j ∷ []) c_new.history (is_to_warm_if (done_in j))) (sym is)
      record {
        judged = j;
        answers = ap (λ (s : StripeNo). answer_by s j ∷ []) place;
        told = judged_here (stripe_of e.key config.stripes) j (subst (λ (s : StripeNo). IsJudgedIf config s c hit j) place told);
        history_is = ap (λ (v : ClassView). v.history) class ∙ ap (λ (es : List ClassEvent). c.history ++ es) (events_if_here j);
        moved_is = refl;
      }

  -- the entry isn't in COLD
  pub unasked : None ≡ find number (lists_of c.history).cold → IsAdvance (rounds c who moment config) number c.history [] c.history false
  unasked is = subst (IsAdvanceOf config here hit [] c.history false) is record { answers = refl; history_is = refl; moved_is = refl }
