-- The three answers that meet the reciprocal's contract.
use Rattle.std.specs.Prelude.{◌≡◌, refl, true, false, ℕ, ◌≤◌, ◌<◌, Ok, Err}
use Rattle.std.proofs.Common.{arith, le-ltb, lt-ltb}
use Rattle.forms.specs.Numbers.{prime}
use Rattle.forms.specs.Answers.{fine, refuse, ask, refusal_of}
use Rattle.forms.specs.Reciprocals.{InverseOf, Reciprocates, reciprocal_asked}
use Rattle.forms.specs.declared.Reason.TheVariants.{NotPrime, EntryTooLarge}

refused_answer : {p x number place : ℕ} → reciprocal_asked p x ≡ refuse number place → Reciprocates p x (Err (refusal_of number place))
refused_answer h = record { refused = λ n k e. cc; answered = λ e. let z : ◌≡◌ {A = ℕ} 0 1 = cc in absurd (omega arith) }

pub bad_prime_refused : {p x : ℕ} → prime p ≡ false → Reciprocates p x (Err (record { reason = NotPrime; place = p }))
unfolding reciprocal_asked ask
bad_prime_refused {p} h = refused_answer {number = 2} {place = p} (rw h)

pub large_refused : {p x : ℕ} → prime p ≡ true → p ≤ x → Reciprocates p x (Err (record { reason = EntryTooLarge; place = 0 }))
unfolding reciprocal_asked ask
large_refused {p} {x} h l = refused_answer {number = 4} {place = 0} (rw (h, le-ltb x p l))

pub residue_answered : {p x r : ℕ} → prime p ≡ true → x < p → InverseOf p x r → Reciprocates p x (Ok r)
unfolding reciprocal_asked ask
residue_answered {p} {x} {r} h l i =
    let asked : reciprocal_asked p x ≡ fine = rw (h, lt-ltb x p l) in
    record { refused = λ n k e. cc; answered = λ e. (r, refl, i) }
