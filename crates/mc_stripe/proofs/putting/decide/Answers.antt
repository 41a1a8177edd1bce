use Rattle.std.proofs.Common.{rules, ◌≡◌}
use Rattle.std.specs.Prelude.{None}
use Rattle.mc_stripe.specs.Putting.{cas_in, decline_of}
use Rattle.mc_stripe.proofs.PutLemmas.{crowded_wanted, lacking_wanted, stored_decided}
use Rattle.mc_stripe.proofs.putting.decide.Goals as goal

pub returns-in_err-room-clause-wants : goal.returns-in_err-room-clause-wants
returns-in_err-room-clause-wants c = λ key item moment version told.
    let stores : decline_of c.args.verb (cas_in c.args.found) ≡ None = cc in
    let wants = lacking_wanted told c.args.given.now c.args.measured.class c.args.verb stores c.link_in-old.result c.link_in-old.ensures c.in_err-room.field-0.0 c.in_err-room.ensures.lacks in
    search (rules, wants)

pub returns-in-Some-crowded-clause-wants : goal.returns-in-Some-crowded-clause-wants
returns-in-Some-crowded-clause-wants c = λ key item moment version told.
    let stores : decline_of c.args.verb (cas_in c.args.found) ≡ None = cc in
    crowded_wanted told c.args.given.now c.args.measured.class c.args.verb stores c.link_in-old.result c.link_in-old.ensures c.in_ok-room.room c.in_ok-room.ensures.covers c.in_ok-room.ensures.taken
    c.fate_in-fate.result (c.fate_in-fate.ensures key item c.args.measured.class version) c.in-Some-crowded.class c.in-Some-crowded.ensures.lacks

pub returns-clause-made : goal.returns-clause-made
returns-clause-made c = λ key item moment version told.
    let stores : decline_of c.args.verb (cas_in c.args.found) ≡ None = cc in
    rw c.answer_in-answer.ensures
    (stored_decided told c.args.given.now c.args.measured.class c.args.verb stores c.link_in-old.result c.link_in-old.ensures c.in_ok-room.room c.in_ok-room.ensures.covers c.in_ok-room.ensures.taken
    c.fate_in-fate.result (c.fate_in-fate.ensures key item c.args.measured.class version) c.in_default-crowded.ensures.places)
