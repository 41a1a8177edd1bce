use Rattle.std.proofs.Common.{[], ◌∷◌, sym, inl, inr}
use Rattle.std.specs.Prelude.{None}
use Rattle.mc_pull_tests.proofs.MetLemmas.{attempt_kept, met_none, met_one, met_two}
use Rattle.mc_pull_tests.proofs.tests.trying.try_lent.Goals as goal

pub attempt_none-requires : goal.attempt_none-requires
attempt_none-requires c = record {
  may = record {
    stripe = c.requires.stripe;
    moment = c.requires.moment;
    distinct = tt;
    met = tt;
    refused = None;
    offered = record { home = tt; other = tt; each = tt };
  };
}

pub attempt_one-requires-clause-may : goal.attempt_one-requires-clause-may
attempt_one-requires-clause-may c = record {
  stripe = c.requires.stripe;
  moment = c.requires.moment;
  distinct = (tt, tt);
  met = (c.requires.met.first_agrees, tt);
  refused = c.args.refused;
  offered = record { home = inl c.offer_home.ensures; other = tt; each = (inl c.offer_home.ensures, tt) };
}

pub attempt_two-requires-clause-may : goal.attempt_two-requires-clause-may
attempt_two-requires-clause-may c = record {
  stripe = c.requires.stripe;
  moment = c.requires.moment;
  distinct = ((λ same. c.requires.met.apart (sym same), tt), (tt, tt));
  met = (c.requires.met.second_agrees, (c.requires.met.first_agrees, tt));
  refused = None;
  offered = record {
    home = inl c.offer_home-in-Both.ensures;
    other = inr (inl c.offer_other-in-Both.ensures);
    each = (inl c.offer_home-in-Both.ensures, (inr c.offer_other-in-Both.ensures, tt));
  };
}

pub returns-in-Nothing : goal.returns-in-Nothing
returns-in-Nothing c =
    let pair = c.args.pair.now in
    let met = c.requires.met in
    record {
      met = met_none pair.config pair.stripe c.attempt_none.new.stripe pair.first pair.second met
          (attempt_kept pair.config pair.stripe c.attempt_none.new.stripe c.args.command.now c.args.turn _ [] [] c.attempt_none.ensures.site
          None (record { home = tt; other = tt; each = tt }) c.attempt_none.result (c.attempt_none.ensures.tried pair.config met.stripe.made_with) c.attempt_none.ensures.err);
    }

pub returns-in-Home : goal.returns-in-Home
returns-in-Home c =
    let pair = c.args.pair.now in
    let met = c.requires.met in
    record {
      met = met_one pair.config pair.stripe c.attempt_one.new.stripe pair.first pair.second met _
          (attempt_kept pair.config pair.stripe c.attempt_one.new.stripe c.args.command.now c.args.turn _ (pair.first ∷ []) _ c.attempt_one.ensures.site
          c.args.refused (record { home = inl c.offer_home.ensures; other = tt; each = (inl c.offer_home.ensures, tt) })
          c.attempt_one.result (c.attempt_one.ensures.tried pair.config met.stripe.made_with met.first_is) c.attempt_one.ensures.err);
    }

pub returns-in-Other : goal.returns-in-Other
returns-in-Other c =
    let pair = c.args.pair.now in
    let met = c.requires.met in
    record {
      met = met_one pair.config pair.stripe c.attempt_one-in-Other.new.stripe pair.first pair.second met _
          (attempt_kept pair.config pair.stripe c.attempt_one-in-Other.new.stripe c.args.command.now c.args.turn _ (pair.first ∷ []) _ c.attempt_one-in-Other.ensures.site
          None (record { home = tt; other = inl c.offer_other.ensures; each = (inr c.offer_other.ensures, tt) })
          c.attempt_one-in-Other.result (c.attempt_one-in-Other.ensures.tried pair.config met.stripe.made_with met.first_is) c.attempt_one-in-Other.ensures.err);
    }

pub returns-in-Both : goal.returns-in-Both
returns-in-Both c =
    let pair = c.args.pair.now in
    let met = c.requires.met in
    record {
      met = met_two pair.config pair.stripe c.attempt_two.new.stripe pair.first pair.second met _ _
          (attempt_kept pair.config pair.stripe c.attempt_two.new.stripe c.args.command.now c.args.turn _ (pair.second ∷ pair.first ∷ []) _ c.attempt_two.ensures.site
          None (record {
            home = inl c.offer_home-in-Both.ensures;
            other = inr (inl c.offer_other-in-Both.ensures);
            each = (inl c.offer_home-in-Both.ensures, (inr c.offer_other-in-Both.ensures, tt));
          })
          c.attempt_two.result (c.attempt_two.ensures.tried pair.config met.stripe.made_with met.second_is met.first_is) c.attempt_two.ensures.err);
    }
