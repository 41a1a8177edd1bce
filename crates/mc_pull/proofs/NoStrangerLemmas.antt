-- An entry is no stranger to its key's stripe, where the histories agree.
use Rattle.std.proofs.Common.{◌≡◌, ◌≢◌, ℕ, Bool, true, false, Some, None, Option, refl, sym, ap, ◌∙◌, subst, arith}
use Rattle.std.specs.Prelude.{IsSome, IsSomeAnd, if◌then◌else◌, option_map, not, ◌==◌, ◌&&◌}
use Rattle.std.proofs.lemmas.Bool.Decides.{nat_tests}
use Rattle.mc_item.specs.{Item.is_dead, Measure.stripe_of, Stripe.IsLegal}
use Rattle.mc_item.specs.declared.{config.Config.Config, item.ClassNo.ClassNo, item.Item.Item, item.Link.Link, lists.Entry.Entry, lists.Seg.Seg}
use Rattle.mc_item.specs.declared.lists.Seg.TheVariants as segs
use Rattle.mc_rule.specs.{Belonging.IsItemFor, Lawful.IsLawfulHistoryByLists, Lawful.IsListed, Pairs.IsKeyOf, Pairs.link_to, Segment.Rule}
use Rattle.mc_rule.specs.Lists.{Lists, found, lists_of}
use Rattle.mc_evidence.proofs.ItemsAreEntriesLemmas.{item_of_entry}
use Rattle.mc_segment.specs.{ClassState.ClassView, Entries.entry_of}
use Rattle.mc_stripe.specs.StripeState.{Stripe, cache_now}
use Rattle.mc_pull.specs.declared.{judge.Done.Done, judge.Judge.Judge, judge.Mode.Mode}
use Rattle.mc_pull.specs.declared.judge.Judge.TheVariants.{Walk, Dead, Hit}
use Rattle.mc_pull.specs.declared.judge.Done.TheVariants as done
use Rattle.mc_pull.specs.declared.judge.Mode.TheVariants.{Evict, Force, Plain}
use Rattle.mc_pull.specs.{Agreeing.AgreeNow, Outcome.is_due, Outcome.outcome_of, Question.HasKeyOf, Question.Question}
use Rattle.mc_pull.specs.Judgement.{done_by, done_if, done_of, done_with, has_link}

-- what is no stranger's outcome
abbrev is_known : Done → Bool
is_known done.Reclaimed = true
is_known done.ToWarm = true
is_known done.WithinWarm = true
is_known done.ToCold = true
is_known done.Evicted = true
is_known done.Stayed = true
is_known (done.Alive expiry) = true
is_known done.Stranger = false

true_false : true ≡ false → ⊥
true_false h = cc

known_not : (d : Done) → is_known d ≡ true → d ≢ done.Stranger
known_not d known is = true_false (sym known ∙ ap is_known is)

outcome_known : (s : Seg) (mode : Mode) (dead active due : Bool) → is_known (outcome_of s mode dead active due) ≡ true
outcome_known s mode true active due = refl
outcome_known segs.Hot (Plain survey) false true due = refl
outcome_known segs.Hot (Plain survey) false false true = refl
outcome_known segs.Hot (Plain survey) false false false = refl
outcome_known segs.Hot Evict false true due = refl
outcome_known segs.Hot Evict false false due = refl
outcome_known segs.Hot Force false true due = refl
outcome_known segs.Hot Force false false due = refl
outcome_known segs.Warm (Plain survey) false true true = refl
outcome_known segs.Warm (Plain survey) false true false = refl
outcome_known segs.Warm (Plain survey) false false true = refl
outcome_known segs.Warm (Plain survey) false false false = refl
outcome_known segs.Warm Evict false active due = refl
outcome_known segs.Warm Force false active due = refl
outcome_known segs.Cold (Plain survey) false true due = refl
outcome_known segs.Cold (Plain survey) false false due = refl
outcome_known segs.Cold Evict false active due = refl
outcome_known segs.Cold Force false active due = refl
outcome_known segs.Temp (Plain survey) false active due = refl
outcome_known segs.Temp Evict false active due = refl
outcome_known segs.Temp Force false active due = refl

by_known : (rule : Rule) (l : Lists) (moment : ℕ) (judge : Judge) (e : Entry) (item : Item) → is_known (done_by rule l moment judge e item) ≡ true
by_known rule l moment (Walk s mode passed) e item = outcome_known s mode (is_dead item moment) item.marks.active (is_due rule l s mode moment e)
by_known rule l moment Dead e item = of (is_dead item moment)
  where
    of : (b : Bool) → is_known (if b then done.Reclaimed else done.Alive item.expiry) ≡ true
    of true = refl
    of false = refl
by_known rule l moment Hit e item = of (item.marks.active && not (is_dead item moment))
  where
    of : (b : Bool) → is_known (if b then done.ToWarm else done.Stayed) ≡ true
    of true = refl
    of false = refl

link_had : (class : ClassNo) (number : ℕ) (item : Item) → item.link ≡ link_to class number → has_link class number item ≡ true
link_had class number item is = ap (λ (l : Link). l.class.0 == class.0 && l.number == number) is ∙ same class.0 number
  where
    same : (a b : ℕ) → (a == a && b == b) ≡ true
    same a b = grind (arith, nat_tests)

pub known : (c : ClassView) (s : Stripe) (config : Config) (q : Question) → AgreeNow c s → IsLawfulHistoryByLists c.chunks c.rule c.history → IsLegal s.site s.history → IsListed q.number (lists_of c.history)
    → s.site.stripes ≡ config.stripes → HasKeyOf (record { 0 = s.site.stripe }) config c q → done_of c (cache_now s) q ≢ done.Stranger
known c s config q agree lawful legal listed stripes keyed =
    known_not (done_of c (cache_now s) q) (by_found (found q.number (lists_of c.history)) refl listed)
  where
    with_item : (e : Entry) (o : Option Item) → IsSomeAnd o (IsItemFor c.number q.number e) → is_known (done_if c.number q.number o (done_by c.rule (lists_of c.history) q.moment q.judge e)) ≡ true
    with_item e None has = absurd has
    with_item e (Some item) has =
        subst (λ (b : Bool). is_known (if b then done_by c.rule (lists_of c.history) q.moment q.judge e item else done.Stranger) ≡ true) (sym (link_had c.number q.number item has.link))
        (by_known c.rule (lists_of c.history) q.moment q.judge e item)

    by_found : (o : Option (Seg × Entry)) → found q.number (lists_of c.history) ≡ o → IsSome o → is_known (done_of c (cache_now s) q) ≡ true
    by_found None is there = absurd (true_false (sym there))
    by_found (Some x) is there =
        let entry_is : entry_of q.number (lists_of c.history) ≡ Some x.1 = ap (λ (o : Option (Seg × Entry)). option_map (λ p. p.1) o) is in
        let of : IsKeyOf s.site x.1.key = ap (λ (n : ℕ). stripe_of x.1.key n) stripes ∙ keyed.key x.1 entry_is in
        let has = item_of_entry s.site c.rule c.number c.chunks s.history c.history q.number x.0 x.1 legal lawful agree.evidence is of in
        subst (λ (o : Option Entry). is_known (done_with c (cache_now s) q o) ≡ true) (sym entry_is) (with_item x.1 ((cache_now s).items x.1.key) has)
