-- A get, key by key.
use Rattle.std.proofs.Common.{◌≡◌, ℕ, List, [], ◌∷◌, ◌++◌, refl, sym, ap, ◌∙◌, append_assoc, append-nil, length, arith, Bool, length-append, map, take, subst}
use Rattle.std.specs.Prelude.{Option, None, Some, ℤ}
use Rattle.std.proofs.lemmas.List.{map-append}
use Rattle.mc_item.specs.declared.{fault.Fault.Fault, reply.Reply.Reply}
use Rattle.mc_item.specs.declared.fault.Fault.TheVariants as faults
use Rattle.mc_proto.specs.{Answers.Answer, Answers.Replied, Answers.replies_of, Answers.text_of, Text.end_text, Text.value_text, Text.values_text}
use Rattle.mc_proto.specs.declared.request.Limits.{Limits}
use Rattle.mc_script.specs.Calls.{Answers, AnswersKey, Begins, Breaks, CallsView, Fails, FailsKey, MakesCalls, reading_command, reading_request}
use Rattle.mc_script.specs.Exchanges.{Asks, ScriptCall}
use Rattle.mc_script.specs.Script.{calls_of}
use Rattle.mc_script.proofs.MadeCallLemmas.{breaks_end, breaks_later, makes_both, makes_none}

-- one key more is printed last
pub values_text-push : (with_cas : Bool) (keys : List (List ℕ)) (replies : List Reply) (key : List ℕ) (reply : Reply) → length replies ≡ length keys
    → values_text with_cas (keys ++ key ∷ []) (replies ++ reply ∷ []) ≡ values_text with_cas keys replies ++ value_text key reply with_cas
values_text-push with_cas [] [] key reply long = append-nil (value_text key reply with_cas)
values_text-push with_cas [] (r ∷ rs) key reply long = absurd (omega arith)
values_text-push with_cas (k ∷ ks) [] key reply long = absurd (omega arith)
values_text-push with_cas (k ∷ ks) (r ∷ rs) key reply long =
    ap (λ (t : List ℕ). value_text k r with_cas ++ t) (values_text-push with_cas ks rs key reply (omega arith))
    ∙ sym (append_assoc (value_text k r with_cas) (values_text with_cas ks rs) (value_text key reply with_cas))

-- a text begins with itself
pub begins_itself : (a : List ℕ) → Begins a a
begins_itself [] = refl
begins_itself (x ∷ a) = ap (λ (t : List ℕ). x ∷ t) (begins_itself a)

-- a text that begins with one that begins with another
pub begins_further : (a b c : List ℕ) → Begins a b → Begins b c → Begins a c
begins_further [] b c first second = refl
begins_further (x ∷ a) [] c first second = cc
begins_further (x ∷ a) (y ∷ b) [] first second = cc
begins_further (x ∷ a) (y ∷ b) (z ∷ c) first second =
    let heads : y ≡ x = cc in
    let others : z ≡ y = cc in
    let front : take (length a) b ≡ a = cc in
    let rest : take (length b) c ≡ b = cc in
    let more : take (length a) c ≡ a = begins_further a b c front rest in
    cc

-- the call of a key
abbrev asks : Option ℤ → List ℕ → ScriptCall
asks exptime key = Asks (reading_command exptime key)

-- the calls of the request that reads keys
calls_read : (limits : Limits) (exptime : Option ℤ) (keys : List (List ℕ)) (with_cas : Bool) → calls_of limits (reading_request exptime keys with_cas) ≡ map (asks exptime) keys
calls_read limits None keys with_cas = refl
calls_read limits (Some e) keys with_cas = refl

-- its text
text_read : (exptime : Option ℤ) (keys : List (List ℕ)) (with_cas : Bool) (answers : List Answer)
    → text_of (reading_request exptime keys with_cas) answers ≡ values_text with_cas keys (replies_of answers) ++ end_text
text_read None keys with_cas answers = refl
text_read (Some e) keys with_cas answers = refl

-- replies as answers
replies_of-map : (replies : List Reply) → replies_of (map Replied replies) ≡ replies
replies_of-map [] = refl
replies_of-map (r ∷ rs) = ap (λ (t : List Reply). r ∷ t) (replies_of-map rs)

-- so far these keys of a get or gat were answered
pub record HasKeys (keys : List (List ℕ)) (exptime : Option ℤ) (with_cas : Bool) (moment : ℕ) (old new : CallsView) (text text' : List ℕ) : Type 0 where
  pub replies : List Reply
  pub long : length replies ≡ length keys
  pub texts : text' ≡ text ++ values_text with_cas keys replies
  pub makes : MakesCalls (map (λ key. Asks (reading_command exptime key)) keys) (map Replied replies) moment old new

-- none yet
pub keys_none : {exptime : Option ℤ} {with_cas : Bool} {moment : ℕ} (now : CallsView) (text : List ℕ) → HasKeys [] exptime with_cas moment now now text text
keys_none now text = record { replies = []; long = refl; texts = sym (append-nil text); makes = makes_none now }

module _ {exptime : Option ℤ} {with_cas : Bool} {moment : ℕ} {a b : CallsView} {text text' : List ℕ} where
  -- one key more
  pub keys_more : {keys : List (List ℕ)} {key : List ℕ} {c : CallsView} {text'' : List ℕ} → HasKeys keys exptime with_cas moment a b text text'
      → AnswersKey key exptime with_cas moment b c text' text'' → HasKeys (keys ++ key ∷ []) exptime with_cas moment a c text text''
  keys_more {keys = keys} {key = key} {c = c} so_far by =
      let both = makes_both so_far.makes by.makes in
      record {
        replies = so_far.replies ++ by.reply ∷ [];
        long = omega (arith, so_far.long, length-append so_far.replies (by.reply ∷ []), length-append keys (key ∷ []));
        texts = by.texts ∙ ap (λ (t : List ℕ). t ++ value_text key by.reply with_cas) so_far.texts ∙ append_assoc text (values_text with_cas keys so_far.replies) (value_text key by.reply with_cas)
            ∙ ap (λ (t : List ℕ). text ++ t) (sym (values_text-push with_cas keys so_far.replies key by.reply so_far.long));
        makes = subst (λ (cs : List ScriptCall). MakesCalls cs (map Replied (so_far.replies ++ by.reply ∷ [])) moment a c) (sym (map-append (asks exptime) keys (key ∷ [])))
            (subst (λ (bs : List Answer). MakesCalls (map (asks exptime) keys ++ asks exptime key ∷ []) bs moment a c) (sym (map-append Replied so_far.replies (by.reply ∷ []))) both);
      }

  module _ {all keys : List (List ℕ)} where
    -- all keys, and the end of the text
    pub keys_all : {text'' : List ℕ} → all ≡ keys → HasKeys keys exptime with_cas moment a b text text' → text'' ≡ text' ++ end_text
        → (limits : Limits) → Answers limits (reading_request exptime all with_cas) moment a b text text''
    keys_all {text'' = text''} whole so_far last limits =
        let made : Answers limits (reading_request exptime keys with_cas) moment a b text text'' = record {
          answers = map Replied so_far.replies;
          texts = last ∙ ap (λ (t : List ℕ). t ++ end_text) so_far.texts ∙ append_assoc text (values_text with_cas keys so_far.replies) end_text
              ∙ ap (λ (rs : List Reply). text ++ (values_text with_cas keys rs ++ end_text)) (sym (replies_of-map so_far.replies))
              ∙ ap (λ (t : List ℕ). text ++ t) (sym (text_read exptime keys with_cas (map Replied so_far.replies)));
          makes = subst (λ (cs : List ScriptCall). MakesCalls cs (map Replied so_far.replies) moment a b) (sym (calls_read limits exptime keys with_cas)) so_far.makes;
        } in
        subst (λ (ks : List (List ℕ)). Answers limits (reading_request exptime ks with_cas) moment a b text text'') (sym whole) made

    -- one key failed behind others
    pub keys_fail : {fault : Fault} {c : CallsView} (key : List ℕ) (others : List (List ℕ)) → all ≡ keys ++ key ∷ others
        → HasKeys keys exptime with_cas moment a b text text' → FailsKey fault key exptime moment b c
        → (limits : Limits) → Fails fault limits (reading_request exptime all with_cas) moment a c
    keys_fail {fault = fault} {c = c} key others split so_far by limits =
        subst (λ (ks : List (List ℕ)). Fails fault limits (reading_request exptime ks with_cas) moment a c) (sym split)
        (subst (λ (cs : List ScriptCall). Breaks fault cs moment a c)
        (sym (calls_read limits exptime (keys ++ key ∷ others) with_cas ∙ map-append (asks exptime) keys (key ∷ others)))
        (breaks_later (map (asks exptime) others) so_far.makes by))

    -- all keys were answered, and then there was no memory for the end of the text
    pub keys_end_fails : all ≡ keys → HasKeys keys exptime with_cas moment a b text text' → (limits : Limits)
        → Fails faults.NoMemory limits (reading_request exptime all with_cas) moment a b
    keys_end_fails whole so_far limits =
        subst (λ (ks : List (List ℕ)). Fails faults.NoMemory limits (reading_request exptime ks with_cas) moment a b) (sym whole)
        (subst (λ (cs : List ScriptCall). Breaks faults.NoMemory cs moment a b) (sym (calls_read limits exptime keys with_cas)) (breaks_end so_far.makes))
