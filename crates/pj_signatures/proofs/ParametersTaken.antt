-- Type parameters: what is read is spelled by good ones.
use Rattle.std.proofs.Common.{◌≡◌, ◌++◌, ℕ, suc, inl, inr, Bool, true, false, List, [], ◌∷◌, length, map, ap, refl, sym, ◌∙◌}
use Rattle.std.specs.Prelude.{◌&&◌, Option, Some, None, nat_lt, not, cond}
use Rattle.std.specs.List.{list_all}
use Rattle.pj_signatures.specs.Names.{is_identifier}
use Rattle.pj_signatures.specs.Signature.{TypeParameter, is_reference, spelled, spelled_each, spelled_option, spelled_bound, spelled_parameter, spelled_parameters, fits, reference_fits, option_fits, parameter_fits}
use Rattle.pj_signatures.specs.Types.{Making, made, made_option, made_parameter}
use Rattle.pj_signatures.specs.Reading.{behind, begins, past_run, end_signs, next, one, many, put, not_at, begins_reference, identifier_at, class_bound_at, interface_bound_at, parameter_at, parameters_at, inside}
use Rattle.pj_signatures.proofs.Pieces.{both}
use Rattle.pj_signatures.proofs.Spellings.{next_from, behind_from, expect_from, identifier_taken}
use Rattle.pj_signatures.proofs.Repeated.{put_each, IsTaken, many_takes}
use Rattle.pj_signatures.proofs.TypesAgain.{reference_from, Chosen, chosen}
use Rattle.pj_signatures.proofs.TypesTaken.{taken, reference_is_taken, if_from}

module _ {A B S P : Type 0} (make : Making A B S P) where
  abbrev bound_by : ℕ → List ℕ → Option (A × List ℕ)
  bound_by n = inside make (suc n)

  bound_taken : (n : ℕ) (text : List ℕ) (value : A) (rest : List ℕ) → interface_bound_at make (bound_by n) text ≡ Some (value, rest) → IsTaken spelled_bound (made make) (reference_fits n) text value rest
  bound_taken n text value rest e =
      let x = expect_from 58 text _ _ e in
      let t = reference_is_taken make n x.rest value rest x.follows in
      record { from = t.from; is_good = t.is_good; text_is = x.text_is ∙ ap (λ (r : List ℕ). 58 ∷ r) t.text_is; value_is = t.value_is }

  class_bound_taken : (n : ℕ) (text : List ℕ) (value : Option A) (rest : List ℕ) → class_bound_at make (bound_by n) text ≡ Some (value, rest)
      → IsTaken (spelled_option spelled) (made_option make) (option_fits (reference_fits n)) text value rest
  unfolding inside
  class_bound_taken n text value rest e = at (begins_reference text) refl (not (begins 58 (past_run end_signs text))) e
    where
      none : one None text ≡ Some (value, rest) → IsTaken (spelled_option spelled) (made_option make) (option_fits (reference_fits n)) text value rest
      none k =
          let both_is : (None, text) ≡ (value, rest) = cc in
          record { from = None; is_good = refl; text_is = ap (λ (r : Option A × List ℕ). r.1) both_is; value_is = sym (ap (λ (r : Option A × List ℕ). r.0) both_is) }

      some : begins_reference text ≡ true → next (bound_by n text) (λ bound rest. one (Some bound) rest) ≡ Some (value, rest) → IsTaken (spelled_option spelled) (made_option make) (option_fits (reference_fits n)) text value rest
      some reference k =
          let f = next_from (bound_by n text) (λ bound rest. let o : Option (Option A × List ℕ) = one (Some bound) rest in o) (value, rest) k in
          let t = taken make n text f.value f.rest f.is_found in
          let is = reference_from t.from f.rest (ap begins_reference (sym t.text_is) ∙ reference) in
          let both_is : (Some f.value, f.rest) ≡ (value, rest) = cc in
          let rest_is : f.rest ≡ rest = ap (λ (r : Option A × List ℕ). r.1) both_is in
          record {
            from = Some t.from;
            is_good = both (is_reference t.from) (fits n t.from) is t.is_good;
            text_is = t.text_is ∙ ap (λ (r : List ℕ). spelled t.from r) rest_is;
            value_is = sym (ap (λ (r : Option A × List ℕ). r.0) both_is) ∙ ap (λ (v : A). let o : Option A = Some v in o) t.value_is;
          }

      at : (reference : Bool) → begins_reference text ≡ reference → (free : Bool) → cond (reference && free) (next (bound_by n text) (λ bound rest. one (Some bound) rest)) (one None text) ≡ Some (value, rest)
          → IsTaken (spelled_option spelled) (made_option make) (option_fits (reference_fits n)) text value rest
      at true is true k = some is k
      at true is false k = none k
      at false is free k = none k

  parameter_taken : (n : ℕ) (text : List ℕ) (value : P) (rest : List ℕ) → parameter_at make (bound_by n) text ≡ Some (value, rest) → IsTaken spelled_parameter (made_parameter make) (parameter_fits n) text value rest
  parameter_taken n text value rest e =
      let f = next_from (identifier_at text) _ _ e in
      let name = identifier_taken text f.value f.rest f.is_found in
      let x = expect_from 58 f.rest _ _ f.follows in
      let g = next_from (class_bound_at make (bound_by n) x.rest) _ _ x.follows in
      let bound = class_bound_taken n x.rest g.value g.rest g.is_found in
      let h = next_from (many (begins 58) (interface_bound_at make (bound_by n)) put [] g.rest) _ _ g.follows in
      let more = many_takes (begins 58) (interface_bound_at make (bound_by n)) put spelled_bound (made make) (reference_fits n) (bound_taken n) [] g.rest h.value h.rest h.is_found in
      let more_is = more.state_is ∙ put_each (made make) [] more.from in
      let both_is : (make.parameter f.value g.value h.value, h.rest) ≡ (value, rest) = cc in
      let rest_is : h.rest ≡ rest = ap (λ (r : P × List ℕ). r.1) both_is in
      record {
        from = record { name = f.value; class_bound = bound.from; interface_bounds = more.from };
        is_good = both (is_identifier f.value) (option_fits (reference_fits n) bound.from && list_all (reference_fits n) more.from) name.0
            (both (option_fits (reference_fits n) bound.from) (list_all (reference_fits n) more.from) bound.is_good more.are_good);
        text_is = name.1 ∙ ap (λ (t : List ℕ). f.value ++ t) (x.text_is ∙ ap (λ (t : List ℕ). 58 ∷ t) (bound.text_is ∙ ap (λ (t : List ℕ). spelled_option spelled bound.from t) (more.text_is ∙ ap (λ (r : List ℕ). spelled_each spelled_bound more.from r) rest_is)));
        value_is = sym (ap (λ (r : P × List ℕ). r.0) both_is) ∙ ap (λ (b : Option A). make.parameter f.value b h.value) bound.value_is ∙ ap (λ (l : List A). make.parameter f.value (made_option make bound.from) l) more_is;
      }

  pub parameters_taken : (n : ℕ) (text : List ℕ) (value : List P) (rest : List ℕ) → parameters_at make (bound_by n) text ≡ Some (value, rest)
      → IsTaken spelled_parameters (map (made_parameter make)) (list_all (parameter_fits n)) text value rest
  unfolding Chosen
  parameters_taken n text value rest e =
      elim (chosen (behind 60 text) _ _ _ e) [
        | inl p ↦
            let f = next_from (many (not_at 62) (parameter_at make (bound_by n)) put [] p.0) _ _ p.2 in
            let all = many_takes (not_at 62) (parameter_at make (bound_by n)) put spelled_parameter (made_parameter make) (parameter_fits n) (parameter_taken n) [] p.0 f.value f.rest f.is_found in
            let x = expect_from 62 f.rest _ _ f.follows in
            let test = if_from (nat_lt 0 (length f.value)) (Some (f.value, x.rest)) (value, rest) x.follows in
            let both_is : (f.value, x.rest) ≡ (value, rest) = cc in
            let rest_is : x.rest ≡ rest = ap (λ (r : List P × List ℕ). r.1) both_is in
            let value_is = all.state_is ∙ put_each (made_parameter make) [] all.from in
            listed text value rest all.from all.are_good (ap (λ (v : List P). nat_lt 0 (length v)) (sym value_is) ∙ test.0)
            (behind_from 60 text p.0 p.1 ∙ ap (λ (t : List ℕ). 60 ∷ t) (all.text_is ∙ ap (λ (r : List ℕ). spelled_each spelled_parameter all.from r) (x.text_is ∙ ap (λ (r : List ℕ). 62 ∷ r) rest_is)))
            (sym (ap (λ (r : List P × List ℕ). r.0) both_is) ∙ value_is)
        | inr q ↦
            let both_is : ([], text) ≡ (value, rest) = cc in
            record { from = []; is_good = refl; text_is = ap (λ (r : List P × List ℕ). r.1) both_is; value_is = sym (ap (λ (r : List P × List ℕ). r.0) both_is) }
      ]
    where
      listed : (text : List ℕ) (value : List P) (rest : List ℕ) (list : List TypeParameter) → list_all (parameter_fits n) list ≡ true → nat_lt 0 (length (map (made_parameter make) list)) ≡ true
          → text ≡ 60 ∷ spelled_each spelled_parameter list (62 ∷ rest) → value ≡ map (made_parameter make) list
          → IsTaken spelled_parameters (map (made_parameter make)) (list_all (parameter_fits n)) text value rest
      listed text value rest [] good there text_is value_is = absurd (let no : false ≡ true = there in cc)
      listed text value rest (first ∷ more) good there text_is value_is = record { from = first ∷ more; is_good = good; text_is = text_is; value_is = value_is }
