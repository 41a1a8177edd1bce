-- The tokens of a line are the runs of bytes other than the space that it is made of.
use Rattle.std.proofs.Common.{◌≡◌, ◌++◌, ◌∷◌, [], ◌<◌, ◌∙◌, ℕ, List, Bool, true, false, length, get_or, refl, ap, sym, subst, arith, append_assoc, append-nil, ◌==◌}
use Rattle.std.proofs.lemmas.Bool.{eq-eqb, eqb-true, eqb-false}
use Rattle.std.specs.Prelude.{if◌then◌else◌}
use Rattle.mc_proto.specs.Lines.{Lacks, AreSpaces, BeginsWith, AreTokens, ended, tokens, tokens_from}
use Rattle.mc_proto.proofs.{ListCutLemmas.lacks_both, TokenLemmas.run_on, TokenLemmas.end_run}

-- one space more before the tokens
space_before : (b : ℕ) (line : List ℕ) (ts : List (List ℕ)) → b ≡ 32 → AreTokens line ts → AreTokens (b ∷ line) ts
space_before b line [] is blank = (is, blank)
space_before b line (t ∷ ts) is made =
    let first = made.1 in
    let begins : BeginsWith (b ∷ line) t made.0 = record {
      spaces = b ∷ first.spaces;
      whole = ap (λ (k : List ℕ). b ∷ k) first.whole;
      blank = (is, first.blank);
      some = first.some;
      one = first.one;
      ends = first.ends;
    } in
    (made.0, begins, made.2)

-- a token that ends here, and the tokens behind it
ended_here : (t line : List ℕ) (ts : List (List ℕ)) → Lacks 32 t → (0 < length line → get_or line 0 0 ≡ 32) → AreTokens line ts → AreTokens (t ++ line) (ended t ++ ts)
ended_here [] line ts l ends made = made
ended_here (b ∷ t) line ts l ends made =
    let begins : BeginsWith (b ∷ t ++ line) (b ∷ t) line = record { spaces = []; whole = refl; blank = tt; some = omega arith; one = l; ends = ends } in
    (line, begins, made)

made_from : (t line : List ℕ) → Lacks 32 t → AreTokens (t ++ line) (tokens_from t line)
made_from t [] l = subst (λ (ts : List (List ℕ)). AreTokens (t ++ []) ts) (append-nil (ended t)) (ended_here t [] [] l (λ some. absurd (omega arith)) tt)
made_from t (b ∷ line) l = by (b == 32) refl (made_from [] line tt) (λ off. made_from (t ++ b ∷ []) line (lacks_both 32 t (b ∷ []) l (off, tt)))
  where
    by : (on : Bool) → (b == 32) ≡ on → AreTokens line (tokens line) → ((b ≡ 32 → ⊥) → AreTokens ((t ++ b ∷ []) ++ line) (tokens_from (t ++ b ∷ []) line))
        → AreTokens (t ++ b ∷ line) (if on then ended t ++ tokens_from [] line else tokens_from (t ++ b ∷ []) line)
    by true is made more = ended_here t (b ∷ line) (tokens line) l (λ some. eqb-true b 32 is) (space_before b line (tokens line) (eqb-true b 32 is) made)
    by false is made more = subst (λ (k : List ℕ). AreTokens k (tokens_from (t ++ b ∷ []) line)) (append_assoc t (b ∷ []) line) (more (eqb-false b 32 is))

-- a line is its tokens
pub tokens_make_line : (line : List ℕ) → AreTokens line (tokens line)
tokens_make_line line = made_from [] line tt

-- spaces end no token
past_spaces : (spaces line : List ℕ) → AreSpaces spaces → tokens (spaces ++ line) ≡ tokens line
past_spaces [] line blank = refl
past_spaces (b ∷ spaces) line blank =
    let on : b == 32 ≡ true = eq-eqb b 32 blank.0 in
    rw on (past_spaces spaces line blank.1)

-- a line is no other tokens
pub line_has_tokens : (line : List ℕ) (ts : List (List ℕ)) → AreTokens line ts → ts ≡ tokens line
line_has_tokens line [] blank = sym (ap tokens (sym (append-nil line)) ∙ past_spaces line [] blank)
line_has_tokens line (t ∷ ts) made =
    let first = made.1 in
    let rest : ts ≡ tokens made.0 = line_has_tokens made.0 ts made.2 in
    sym (ap tokens (first.whole ∙ append_assoc first.spaces t made.0) ∙ past_spaces first.spaces (t ++ made.0) first.blank ∙ run_on [] t made.0 first.one ∙ end_run t made.0 first.some first.ends
    ∙ ap (λ (k : List (List ℕ)). t ∷ k) (sym rest))
