-- What a try on a stripe and classes leaves where its command was made.
use Rattle.std.proofs.Common.{◌≡◌, ◌≤◌, ◌⊎◌, ◌^◌, ℕ, List, false, sym, ap, ◌∙◌, subst}
use Rattle.std.specs.Prelude.{Option, IsSomeAnd}
use Rattle.std.specs.List.{All}
use Rattle.mc_item.specs.{Command.key_of, Stripe.Fits, Stripe.IsLegal}
use Rattle.mc_item.specs.declared.answer.Need.TheVariants as needs
use Rattle.mc_item.specs.declared.{command.Command.Command, config.Config.Config, item.ClassNo.ClassNo, item.Link.Link, reply.Room.Room}
use Rattle.mc_rule.specs.{Lawful.IsLawfulHistoryByLists, Lawful.is_named, Lists.entries_linked}
use Rattle.mc_segment.specs.ClassState.{ClassView}
use Rattle.mc_stripe.specs.{Plan.woken_of, StripeCalls.KeepsSite, StripeState.Stripe, Trying.IsDone, Wanting.IsTaken}
use Rattle.mc_stripe.specs.declared.{fate.Fate.Fate, trying.Done.Done, trying.Turn.Turn, wanting.Given.Given}
use Rattle.mc_pull.specs.declared.parts.Part.{Part}
use Rattle.mc_pull.specs.Attempt.{HasRoomFor, IsMadeOn, MayMakePart, MayTryOn, OffersHome, OffersOther}
use Rattle.mc_pull.specs.{Lent.OfEachClass, Lent.EachPair, Parts.part_events, Parts.part_for, Perform.Call, Perform.call, Question.IsClassOf, Question.IsStripeOf}
use Rattle.mc_pull.specs.{Performed.GainsPart, Performed.IsPerformed, Performed.part_in, Settled.class_with}
use Rattle.mc_pull.proofs.AttemptLemmas.{here_free, here_small, may_perform, offered_fits, part_ready}
use Rattle.mc_pull.proofs.{OtherStripeLemmas.IsNumbered, PerformedLemmas.IsOf, PerformedLemmas.each_at, PerformedLemmas.performed_kept, PerformedLemmas.performed_seen}

-- no event names a link that is to come
abbrev pub IsFresh : ClassView → Type 0
IsFresh v = (q : ℕ) → entries_linked v.history ≤ q → is_named q v.history ≡ false

-- what the classes give fits the stripe
pub offered_on : {s : Stripe} {vs : List ClassView} {command : Command} {turn : Turn} {given : Given} → MayTryOn s vs command turn given → OfEachClass IsFresh vs
    → (class : ClassNo) (room : Room) → IsTaken given (needs.Fresh class) room → Fits (needs.Fresh class) room s.history
offered_on {s} {vs} {command} {turn} {given} may fresh class room taken = offered_fits s vs command turn given may (each_at IsFresh vs fresh) class room taken

-- what the try of a command that was made knows of the stripe and the classes
pub record IsMadeTry (s later : Stripe) (vs : List ClassView) (command : Command) (turn : Turn) (given : Given) (done : Done) : Type 0 where
  pub may : MayTryOn s vs command turn given
  pub fresh : OfEachClass IsFresh vs
  pub legal : IsLegal s.site s.history
  pub small : All (λ size. size ≤ 2 ^ 20) s.site.sizes
  pub site : KeepsSite s later
  pub made : IsDone given s later turn.who command turn.moment done

pub made_try : {s later : Stripe} {vs : List ClassView} {command : Command} {turn : Turn} {given : Given} {done : Done} → MayTryOn s vs command turn given → OfEachClass IsFresh vs
    → IsLegal s.site s.history → All (λ size. size ≤ 2 ^ 20) s.site.sizes → KeepsSite s later → IsDone given s later turn.who command turn.moment done → IsMadeTry s later vs command turn given done
made_try may fresh legal small site made = record { may = may; fresh = fresh; legal = legal; small = small; site = site; made = made }

module _ {s later : Stripe} {vs : List ClassView} {command : Command} {turn : Turn} {given : Given} {done : Done} (try : IsMadeTry s later vs command turn given done) where
  -- the call of its command, in the room that was taken
  abbrev pub called : Call
  called = call turn.who command turn.moment done.room

  fresh_at : (v : ClassView) → IsOf v vs → IsFresh v
  fresh_at = each_at IsFresh vs try.fresh

  -- ---- one of the classes, with the command's key
  module _ (v : ClassView) {key : List ℕ} (key_is : key ≡ key_of command) where
    part_is : part_for v key done.room done.fate ≡ part_in s called v
    part_is = ap (λ (k : List ℕ). part_for v k done.room done.fate) key_is ∙ ap (λ (f : Fate). part_for v (key_of command) done.room f) try.made.uses.fate_is

    -- it may make its part
    pub part_may : IsOf v vs → HasRoomFor given v → MayMakePart v key done.room done.fate
    part_may there has =
        let offers = each_at (λ x. IsSomeAnd given.home (OffersHome x try.may.refused turn.who) ⊎ IsSomeAnd given.other (OffersOther x)) vs try.may.offered.each v there in
        let ready = part_ready s vs command turn given try.may fresh_at done.room done.fate try.made.uses v offers has in
        subst (λ (k : List ℕ). MayMakePart v k done.room done.fate) (sym key_is)
        record {
          free = here_free s vs command turn given try.may fresh_at done.room done.fate try.made.uses v there;
          small = here_small s vs command turn given try.may fresh_at done.room done.fate try.made.uses try.legal try.small v;
          space = ready.space;
          place = ready.places;
        }

    -- it gains that
    pub part_gains : {w : ClassView} → w ≡ class_with v (part_events v turn.who turn.moment (part_for v key done.room done.fate)) w.room → GainsPart s called v w
    part_gains {w} made = made ∙ ap (λ (p : Part). class_with v (part_events v turn.who turn.moment p) w.room) part_is

  -- all that was made
  pub made_on : {ws : List ClassView} {woken : Option Link} (config : Config) → IsStripeOf config s → OfEachClass (IsClassOf config) vs
      → OfEachClass (λ v. IsLawfulHistoryByLists v.chunks v.rule v.history) vs → OfEachClass IsNumbered vs → woken ≡ woken_of done.fate → EachPair (GainsPart s called) vs ws
      → IsMadeOn config s later command turn given vs ws (record { reply = done.reply; woken = woken })
  made_on {ws} config made_with classes lawful numbered woken_is gains =
      let may = may_perform s vs command turn given try.may fresh_at done.room done.fate try.made.uses config made_with classes in
      let performed : IsPerformed s later called vs ws = record { stripe = try.made.noted; classes = gains } in
      record {
        room = done.room;
        fate = done.fate;
        uses = try.made.uses;
        may = may;
        reply_is = try.made.reply_is;
        woken_is = woken_is;
        performed = performed;
        agreement = performed_kept config s later called vs ws try.site may try.legal lawful performed;
        sight = performed_seen config s later called vs ws try.site may try.legal numbered performed;
      }
