-- What a caller's history says of the events that name the caller: each has its call, and no turn is answered twice.
use Rattle.std.proofs.Common.{◌≡◌, ◌<◌, ◌+◌, ℕ, List, [], ◌∷◌, ◌++◌, Some, slice_get, length, sym, ap, ◌∙◌, subst, arith}
use Rattle.mc_item.specs.declared.call_event.Answered as kinds
use Rattle.mc_item.specs.declared.{call_event.CallEvent.CallEvent, class_event.ClassEvent.ClassEvent, config.Config.Config, item.Who.Who, stripe_event.Did.Did}
use Rattle.mc_item.specs.declared.{stripe_event.StripeEvent.StripeEvent}
use Rattle.mc_item.specs.declared.call_event.CallEvent.TheVariants.{Answered, Asked, Crawled, Juggled, Limits}
use Rattle.mc_item.specs.declared.stripe_event.StripeEvent.TheVariants as events
use Rattle.mc_board.specs.Accounts.{maker_of, who_of}
use Rattle.mc_store.specs.Callers.{IsCalled, IsNext, answered_at, moment_of, turns_of}
use Rattle.mc_store.specs.Finals.{AreClasses, AreItsOwn, AreItsOwnInClasses, AreStripes, FinalView}
use Rattle.mc_store.specs.{Made.WasCalled, Passes.PassView, Sides.ClassSide, Sides.StripeSide}
use Rattle.mc_store.proofs.NextTurnLemmas.{turn_more}

-- each event was called
pub was_called : (config : Config) (final : FinalView) (passes : ℕ → PassView) (number place : ℕ) (s : StripeSide) (event : StripeEvent) → AreStripes final.board config final.stripes
    → ((caller : ℕ) → caller < config.callers → ((passes caller).caller ≡ caller) × AreItsOwn (passes caller) final.stripes)
    → slice_get final.stripes number ≡ Some s → slice_get s.stripe.history place ≡ Some event
    → ((who_of event).caller < config.callers) × IsCalled (passes (who_of event).caller).calls number place event
was_called config final passes number place s event all own there at =
    let of = ((all.each number s there).kept.called.each place event at).0 in
    let pass = own (who_of event).caller of in
    (of, pass.1.each number s place event there at (sym pass.0))

-- and so was each of a class
pub class_was_called : (config : Config) (final : FinalView) (passes : ℕ → PassView) (number place : ℕ) (s : ClassSide) (event : ClassEvent) → AreClasses final.board config final.classes
    → ((caller : ℕ) → caller < config.callers → ((passes caller).caller ≡ caller) × AreItsOwnInClasses (passes caller) final.classes)
    → slice_get final.classes number ≡ Some s → slice_get s.class.history place ≡ Some event
    → ((maker_of event).caller < config.callers) × WasCalled (passes (maker_of event).caller).calls (record { 0 = number + 1 }) event
class_was_called config final passes number place s event all own there at =
    let of = ((all.each number s there).kept.called.each place event at).0 in
    let pass = own (maker_of event).caller of in
    (of, pass.1.each number s place event there at (sym pass.0))

-- without what stands first, as many turns are left
turns_tail : (call : CallEvent) (xs ys : List CallEvent) → length (turns_of (call ∷ xs)) ≡ length (turns_of (call ∷ ys)) → length (turns_of xs) ≡ length (turns_of ys)
turns_tail (Asked a) xs ys same = omega (arith, same)
turns_tail (Juggled w) xs ys same = omega (arith, same)
turns_tail (Crawled w) xs ys same = omega (arith, same)
turns_tail (Answered a) xs ys same = same
turns_tail (Limits l) xs ys same = omega (arith, same)

head_same : (x y : CallEvent) (xs ys : List CallEvent) → x ∷ xs ≡ y ∷ ys → x ≡ y
head_same x y xs ys e = cc e

tail_same : (x y : CallEvent) (xs ys : List CallEvent) → x ∷ xs ≡ y ∷ ys → xs ≡ ys
tail_same x y xs ys e = cc e

-- behind the call of a turn stands one list
pub behind_same : (bs cs : List CallEvent) (x y : CallEvent) (xs ys : List CallEvent) (m n : ℕ) → bs ++ x ∷ xs ≡ cs ++ y ∷ ys
    → length (turns_of bs) ≡ length (turns_of cs) → moment_of x ≡ Some m → moment_of y ≡ Some n → xs ≡ ys
behind_same [] [] x y xs ys m n e same one two = tail_same x y xs ys e
behind_same [] (c ∷ cs) x y xs ys m n e same one two =
    let first : x ≡ c = head_same x c xs (cs ++ y ∷ ys) e in
    let more = turn_more c cs m (subst (λ (v : CallEvent). moment_of v ≡ Some m) first one) in
    absurd (omega (arith, same, more))
behind_same (b ∷ bs) [] x y xs ys m n e same one two =
    let first : b ≡ y = head_same b y (bs ++ x ∷ xs) ys e in
    let more = turn_more b bs n (subst (λ (v : CallEvent). moment_of v ≡ Some n) (sym first) two) in
    absurd (omega (arith, same, more))
behind_same (b ∷ bs) (c ∷ cs) x y xs ys m n e same one two =
    let first : b ≡ c = head_same b c (bs ++ x ∷ xs) (cs ++ y ∷ ys) e in
    behind_same bs cs x y xs ys m n (tail_same b c (bs ++ x ∷ xs) (cs ++ y ∷ ys) e)
    (turns_tail b bs cs (same ∙ ap (λ (v : CallEvent). length (turns_of (v ∷ cs))) (sym first))) one two

next_same : (a b : CallEvent) (xs ys : List CallEvent) → IsNext a xs → IsNext b ys → xs ≡ ys → a ≡ b
next_same a b [] ys is also e = absurd is
next_same a b (x ∷ xs) [] is also e = absurd also
next_same a b (x ∷ xs) (y ∷ ys) is also e = sym is ∙ (head_same x y xs ys e ∙ also)

answer_inside : (a b : kinds.Answered) → Answered a ≡ Answered b → a ≡ b
answer_inside a b e = cc e

answer_same : (k j p q : ℕ) → answered_at k p ≡ answered_at j q → (k ≡ j) × (p ≡ q)
answer_same k j p q e =
    let same = answer_inside (record { stripe = record { 0 = k }; place = p }) (record { stripe = record { 0 = j }; place = q }) e in
    (ap (λ (a : kinds.Answered). a.stripe.0) same, ap (λ (a : kinds.Answered). a.place) same)

-- no turn is answered twice
pub answered_once : (final : FinalView) (pass : PassView) (number place number_too place_too : ℕ) (s s_too : StripeSide) (did did_too : Did)
    → AreItsOwn pass final.stripes → did.who.caller ≡ pass.caller → did_too.who ≡ did.who
    → slice_get final.stripes number ≡ Some s → slice_get s.stripe.history place ≡ Some (events.Did did)
    → slice_get final.stripes number_too ≡ Some s_too → slice_get s_too.stripe.history place_too ≡ Some (events.Did did_too) → (number ≡ number_too) × (place ≡ place_too)
answered_once final pass number place number_too place_too s s_too did did_too own by same there at there_too at_too =
    let one = own.each number s place (events.Did did) there at by in
    let two = own.each number_too s_too place_too (events.Did did_too) there_too at_too (ap (λ (w : Who). w.caller) same ∙ by) in
    let turns : length (turns_of one.begun.before) ≡ length (turns_of two.begun.before) = one.begun.turn_is ∙ (ap (λ (w : Who). w.turn) (sym same) ∙ sym two.begun.turn_is) in
    let behind = behind_same one.begun.before two.begun.before one.begun.call two.begun.call one.begun.behind two.begun.behind one.moment two.moment
    (sym one.begun.split ∙ two.begun.split) turns one.begun.handed two.begun.handed in
    answer_same number number_too place place_too (next_same (answered_at number place) (answered_at number_too place_too) one.begun.behind two.begun.behind one.own.1 two.own.1 behind)
