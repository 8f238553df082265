-- What the operations promise to C: the number and the place of an answer that keeps the operation's promise. Each determines both.
use Rattle.std.specs.Prelude.{◌≡◌, List, ℕ, Result}
use Rattle.std.proofs.Common.{sym, ◌∙◌, ap}
use Rattle.forms.specs.Answers.{analysed_number, analysed_place, verdict_number, verdict_place, reciprocal_number, reciprocal_value}
use Rattle.forms.specs.Operations.{Analyses, Checks}
use Rattle.forms.specs.Reciprocals.{Reciprocates}
use Rattle.forms.proofs.Determined.{analysis_same_answer, check_determined, reciprocal_determined}
use Rattle.forms.specs.declared.Fault.{Fault}
use Rattle.forms.specs.declared.Refusal.{Refusal}

pub record NumberedAnalysis (p n : ℕ) (A before after : List ℕ) (number place : ℕ) : Type 0 where
  pub answer : Result ℕ Refusal
  pub kept : Analyses p n A before after answer
  pub number_is : number ≡ analysed_number answer
  pub place_is : place ≡ analysed_place answer

pub record NumberedCheck (s : List ℕ) (number place : ℕ) : Type 0 where
  pub answer : Result ℕ Fault
  pub kept : Checks s answer
  pub number_is : number ≡ verdict_number answer
  pub place_is : place ≡ verdict_place answer

pub record NumberedReciprocal (p x number value : ℕ) : Type 0 where
  pub answer : Result ℕ Refusal
  pub kept : Reciprocates p x answer
  pub number_is : number ≡ reciprocal_number answer
  pub value_is : value ≡ reciprocal_value answer

-- two exports that keep a promise agree; of the analysis's bytes forms' Determined says the same
pub numbered_analysis_determined : (p n : ℕ) (A before u v : List ℕ) (x y a b : ℕ) → NumberedAnalysis p n A before u x a → NumberedAnalysis p n A before v y b → (x ≡ y) × (a ≡ b)
numbered_analysis_determined p n A before u v x y a b g h =
    let e = analysis_same_answer p n A before u v g.answer h.answer g.kept h.kept in
    (g.number_is ∙ ap analysed_number e ∙ sym h.number_is, g.place_is ∙ ap analysed_place e ∙ sym h.place_is)

pub numbered_check_determined : (s : List ℕ) (x y a b : ℕ) → NumberedCheck s x a → NumberedCheck s y b → (x ≡ y) × (a ≡ b)
numbered_check_determined s x y a b g h =
    let e = check_determined s g.answer h.answer g.kept h.kept in
    (g.number_is ∙ ap verdict_number e ∙ sym h.number_is, g.place_is ∙ ap verdict_place e ∙ sym h.place_is)

pub numbered_reciprocal_determined : (p x y z a b : ℕ) → NumberedReciprocal p x y a → NumberedReciprocal p x z b → (y ≡ z) × (a ≡ b)
numbered_reciprocal_determined p x y z a b g h =
    let e = reciprocal_determined p x g.answer h.answer g.kept h.kept in
    (g.number_is ∙ ap reciprocal_number e ∙ sym h.number_is, g.value_is ∙ ap reciprocal_value e ∙ sym h.value_is)
