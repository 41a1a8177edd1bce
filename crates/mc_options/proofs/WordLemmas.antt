-- Which numbers the parts between a text's commas spell, and which list they are.
use Rattle.std.proofs.Common.{◌≡◌, ◌≤◌, ◌<◌, ℕ, ◌+◌, ◌^◌, Bool, true, false, ◌&&◌, cond, eqb, nat_lt, List, [], ◌∷◌, ◌++◌, Some, None, Option, length, map}
use Rattle.std.proofs.Common.{drop, get_or, refl, subst, sym, ap, ◌∙◌, ◌⊎◌, inl, inr, append-nil, arith}
use Rattle.std.proofs.lemmas.{Bool.Decides.nat_tests, Bool.cases_lt, List.at_drop_all, List.drop_more}
use Rattle.std.proofs.lemmas.List.Splits.{slice_split_none, slice_split_at, slice_split_first}
use Rattle.std.proofs.lemmas.List.Sums.{AllPass-from_list_all, split_at_first, fails_before_first, passes_at_first}
use Rattle.std.specs.List.{list_all, slice_split, All, position_or_len, before_first, after_first}
use Rattle.mc_item.specs.Measure.{is_digit, number_of, number_in}
use Rattle.mc_options.specs.Asked.{AreMoments, AreNamed, IsListOf, IsNoList, NamesNoMoments}

-- a number is read only where the second of three tests passes
second_passes : (a b c : Bool) (n m : ℕ) → cond (a && b && c) (Some n) None ≡ Some m → b ≡ true
second_passes true true c n m is = refl
second_passes true false c n m is = absurd (cc)
second_passes false b c n m is = absurd (cc)

-- a digit isn't the comma
digit_no_comma : (d : ℕ) → is_digit d ≡ true → eqb d 44 ≡ false
digit_no_comma d is = grind (arith, nat_tests)

-- what spells a number has no comma
number_lacks_comma : (digits : List ℕ) (n : ℕ) → number_in digits ≡ Some n → All (λ b. eqb b 44 ≡ false) digits
number_lacks_comma digits n is =
    let each = AllPass-from_list_all is_digit digits (second_passes (nat_lt 0 (length digits)) (list_all is_digit digits) (nat_lt (number_of digits) (2 ^ 64)) (number_of digits) n is) in
    λ k d below. digit_no_comma (get_or digits k d) (each k d below)

-- the parts of a list spell its numbers
parts_of_list : (numbers text : List ℕ) → IsListOf text numbers → map number_in (slice_split (λ b. eqb b 44) text) ≡ map Some numbers
parts_of_list [] text is = absurd is
parts_of_list (n ∷ []) text is = ap (map number_in) (slice_split_none (λ b. eqb b 44) text (number_lacks_comma text n is)) ∙ ap (λ (o : Option ℕ). o ∷ []) is
parts_of_list (n ∷ m ∷ ns) text (digits, rest, split, spells, more) =
    ap (λ (t : List ℕ). map number_in (slice_split (λ b. eqb b 44) t)) split
    ∙ ap (map number_in) (slice_split_at (λ b. eqb b 44) digits 44 rest (number_lacks_comma digits n spells) refl)
    ∙ ap (λ (o : Option ℕ). o ∷ map number_in (slice_split (λ b. eqb b 44) rest)) spells
    ∙ ap (λ (os : List (Option ℕ)). Some n ∷ os) (parts_of_list (m ∷ ns) rest more)

-- a text has one part, or a first one with a comma behind it
record HasFirst (text : List ℕ) : Type 0 where
  first : List ℕ
  rest : List ℕ
  split : text ≡ first ++ 44 ∷ rest
  parts : slice_split (λ b. eqb b 44) text ≡ first ∷ slice_split (λ b. eqb b 44) rest

-- a byte that is the comma
is_comma : (c : ℕ) → eqb c 44 ≡ true → c ≡ 44
is_comma c is = grind (arith, nat_tests)

-- the first comma is one
comma_at_first : (text : List ℕ) → position_or_len (λ b. eqb b 44) text < length text → get_or text (position_or_len (λ b. eqb b 44) text) 0 ≡ 44
comma_at_first text below = is_comma (get_or text (position_or_len (λ b. eqb b 44) text) 0) (passes_at_first (λ b. eqb b 44) text 0 below)

-- which of the two it is
one_or_first : (text : List ℕ) → (slice_split (λ b. eqb b 44) text ≡ text ∷ []) ⊎ HasFirst text
one_or_first text =
    elim (cases_lt (position_or_len (λ b. eqb b 44) text) (length text)) [
      | inl below ↦
          let cut : text ≡ before_first (λ b. eqb b 44) text ++ get_or text (position_or_len (λ b. eqb b 44) text) 0 ∷ after_first (λ b. eqb b 44) text = split_at_first (λ b. eqb b 44) text 0 below in
          inr (record {
            first = before_first (λ b. eqb b 44) text;
            rest = after_first (λ b. eqb b 44) text;
            split = cut ∙ ap (λ (c : ℕ). before_first (λ b. eqb b 44) text ++ c ∷ after_first (λ b. eqb b 44) text) (comma_at_first text below);
            parts = slice_split_first (λ b. eqb b 44) text 0 below;
          })
      | inr past ↦ inl (slice_split_none (λ b. eqb b 44) text (λ k d at. fails_before_first (λ b. eqb b 44) text k d (omega (arith, past, at))))
    ]

-- parts that spell numbers are a list of them
list_of_parts : (numbers text : List ℕ) → map number_in (slice_split (λ b. eqb b 44) text) ≡ map Some numbers → IsListOf text numbers
list_of_parts [] text is =
    elim (one_or_first text) [
      | inl one ↦ let k = ap (map number_in) one in absurd (cc)
      | inr f ↦ let k = ap (map number_in) f.parts in absurd (cc)
    ]
list_of_parts (n ∷ []) text is =
    elim (one_or_first text) [
      | inl one ↦ let k = ap (map number_in) one in cc
      | inr f ↦ let k = ap (map number_in) f.parts in absurd (list_of_parts [] f.rest (cc))
    ]
list_of_parts (n ∷ m ∷ ns) text is =
    elim (one_or_first text) [
      | inl one ↦ let k = ap (map number_in) one in absurd (cc)
      | inr f ↦ let k = ap (map number_in) f.parts in (f.first, f.rest, f.split, cc, list_of_parts (m ∷ ns) f.rest (cc))
    ]

-- what is none is no number
not_numbers : (front numbers : List ℕ) (behind : List (Option ℕ)) → map Some front ++ None ∷ behind ≡ map Some numbers → ⊥
not_numbers [] [] behind is = cc
not_numbers [] (n ∷ ns) behind is = cc
not_numbers (m ∷ ms) [] behind is = cc
not_numbers (m ∷ ms) (n ∷ ns) behind is = not_numbers ms ns behind (cc)

-- what a part adds to the numbers before it
next_part : (numbers : List ℕ) (parts : List (List ℕ)) (i : ℕ) (part : List ℕ) → i < length parts → part ≡ get_or parts i part
    → map Some numbers ++ map number_in (drop i parts) ≡ map Some numbers ++ number_in part ∷ map number_in (drop (i + 1) parts)
next_part numbers parts i part at is =
    ap (λ t. map Some numbers ++ map number_in t) (drop_more parts i part at)
    ∙ ap (λ (t : List ℕ). map Some numbers ++ number_in t ∷ map number_in (drop (i + 1) parts)) (sym is)

-- a number at the end of others
pushed : (ns : List ℕ) (n : ℕ) (os : List (Option ℕ)) → map Some (ns ++ n ∷ []) ++ os ≡ map Some ns ++ Some n ∷ os
pushed [] n os = refl
pushed (m ∷ ms) n os = ap (λ (t : List (Option ℕ)). Some m ∷ t) (pushed ms n os)

-- the numbers so far, with the next part's
pub part_read : (before after : List ℕ) (parts : List (List ℕ)) (i j : ℕ) (part : List ℕ) (n : ℕ) → i < length parts → part ≡ get_or parts i part
    → number_in part ≡ Some n → after ≡ before ++ n ∷ [] → j ≡ i + 1 → map Some before ++ map number_in (drop i parts) ≡ map number_in parts
    → map Some after ++ map number_in (drop j parts) ≡ map number_in parts
part_read before after parts i j part n at is spells more next so_far =
    ap (λ (t : List ℕ). map Some t ++ map number_in (drop j parts)) more
    ∙ ap (λ (t : ℕ). map Some (before ++ n ∷ []) ++ map number_in (drop t parts)) next
    ∙ pushed before n (map number_in (drop (i + 1) parts))
    ∙ ap (λ (o : Option ℕ). map Some before ++ o ∷ map number_in (drop (i + 1) parts)) (sym spells)
    ∙ sym (next_part before parts i part at is)
    ∙ so_far

-- where a part spells no number, the text is no list
pub part_refused : (numbers text : List ℕ) (i : ℕ) (part : List ℕ) → (i < length (slice_split (λ b. eqb b 44) text))
    × (part ≡ get_or (slice_split (λ b. eqb b 44) text) i part) → number_in part ≡ None
    → map Some numbers ++ map number_in (drop i (slice_split (λ b. eqb b 44) text)) ≡ map number_in (slice_split (λ b. eqb b 44) text) → IsNoList text
part_refused numbers text i part at none so_far =
    λ others list.
    let behind = map number_in (drop (i + 1) (slice_split (λ b. eqb b 44) text)) in
    not_numbers numbers others behind (ap (λ (o : Option ℕ). map Some numbers ++ o ∷ behind) (sym none)
    ∙ sym (next_part numbers (slice_split (λ b. eqb b 44) text) i part at.0 at.1) ∙ so_far ∙ parts_of_list others text list)

-- where no part is left, the text is a list of the numbers
pub parts_read : (numbers text : List ℕ) (i : ℕ) → length (slice_split (λ b. eqb b 44) text) ≤ i
    → map Some numbers ++ map number_in (drop i (slice_split (λ b. eqb b 44) text)) ≡ map number_in (slice_split (λ b. eqb b 44) text) → IsListOf text numbers
parts_read numbers text i end so_far =
    list_of_parts numbers text (sym so_far ∙ ap (λ (t : List (Option ℕ)). map Some numbers ++ t) (at_drop_all (map number_in) (slice_split (λ b. eqb b 44) text) i end) ∙ append-nil (map Some numbers))

-- equal numbers have equal parts
same_somes : (ns ms : List ℕ) → map Some ns ≡ map Some ms → ns ≡ ms
same_somes [] [] is = refl
same_somes [] (m ∷ ms) is = absurd (cc)
same_somes (n ∷ ns) [] is = absurd (cc)
same_somes (n ∷ ns) (m ∷ ms) is = let rest = same_somes ns ms (cc) in cc

-- a text is one list
same_list : (text numbers others : List ℕ) → IsListOf text numbers → IsListOf text others → others ≡ numbers
same_list text numbers others list other = same_somes others numbers (sym (parts_of_list others text other) ∙ parts_of_list numbers text list)

-- where its numbers may be no moments, the text names none
pub no_moments : (text : Option (List ℕ)) (numbers : List ℕ) → AreNamed text (Some numbers) → (AreMoments numbers → ⊥) → NamesNoMoments text
no_moments None numbers list refused = absurd list
no_moments (Some text) numbers list refused = λ moments is.
    refused (subst AreMoments (same_list text numbers moments list is.list) is.allowed)
