-- The degree of a non-zero polynomial over a domain, and the polynomials over a domain as a domain.
use Rattle.std.specs.Prelude.{◌≡◌, ◌≢◌, ◌⊎◌, ℕ, zero, suc, ◌+◌, ◌<◌}
use Rattle.std.proofs.Common.{sym, ◌∙◌, ap, inl, inr, arith}
use mathlib.Core.HLevel.{Π_prop, ¬_prop, Σ_prop_path}
use Rattle.std.proofs.Math.Logic.{∥∥₁_elim, Dec-prop}
use Rattle.std.proofs.Math.Decide.{dec_lt}
use Rattle.algebra.specs.Ring.{Ring}
use Rattle.algebra.specs.Domain.{Domain, Field}
use Rattle.algebra.specs.Series.{Series, series, constant, cons}
use Rattle.algebra.specs.Polynomial.{Below, Polynomial, polynomials, below_lower, times_below, times_top, times_series, zero_coefficient, zero_of_below, one_series, Monic, UnitLead}

module _ {R : Type 0} (K : Ring R) where
  open K use {zero as 𝟘}
  open polynomials K use {times as ◌*ᵖ◌, zero as 0ᵖ, one as 1ᵖ}

  infixl 70 ◌*ᵖ◌
  -- at most d + 1 coefficients, the last not zero
  pub record Degree (d : ℕ) (f : Series K) : Type 0 where
    pub below : Below K (suc d) f
    pub lead : f d ≢ 𝟘

  pub degree_below : (d e : ℕ) (f : Series K) → Degree d f → Below K e f → d < e
  degree_below d e f x h = elim (dec_lt d e) [ yes l ↦ l | no n ↦ absurd (x.lead (h d (omega arith))) ]

  pub degree_unique : (d e : ℕ) (f : Series K) → Degree d f → Degree e f → d ≡ e
  degree_unique d e f x y = let a = degree_below d (suc e) f x y.below in let b = degree_below e (suc d) f y x.below in omega arith

  abbrev pub HasDegree : Series K → Type 0
  HasDegree f = (d : ℕ) × Degree d f

  has_degree_proposition : (f : Series K) → IsProp (HasDegree f)
  has_degree_proposition f x y = Σ_prop_path (λ d a b. same d a b) {u = x} {v = y} (degree_unique x.0 y.0 f x.1 y.1)
    where
      same : (d : ℕ) → IsProp (Degree d f)
      same d a b = λ i. record {
        below = Π_prop (λ k. Π_prop (λ l. K.is_set (f k) 𝟘)) a.below b.below i;
        lead = ¬_prop a.lead b.lead i;
      }

  nonzero_at : (f : Polynomial K) (i : ℕ) → f.0 i ≢ 𝟘 → f ≢ 0ᵖ
  nonzero_at f i n e = n (ap (λ (x : Polynomial K). x.0 i) e ∙ zero_coefficient K i)

  pub degree_nonzero : (f : Polynomial K) → HasDegree f.0 → f ≢ 0ᵖ
  degree_nonzero f (d, h) = nonzero_at f d h.lead

  pub degree_unit_lead : Field K → (d : ℕ) (f : Series K) → Degree d f → UnitLead K d f
  degree_unit_lead F d f h = let I = F.inverse (f d) h.lead in record { below = h.below; inverse = I.0; unit = I.1 }

  module _ (D : Domain K) where
    find : (e : ℕ) (f : Series K) → Below K e f → Below K 0 f ⊎ HasDegree f
    find zero f h = inl h
    find (suc e) f h = elim (D.decide (f e)) [ yes z ↦ find e f (below_lower K e f h z) | no n ↦ inr (e, record { below = h; lead = n }) ]

    decide_found : (f : Polynomial K) → Below K 0 f.0 ⊎ HasDegree f.0 → Dec (f ≡ 0ᵖ)
    decide_found f (inl z) = yes (zero_of_below K f z)
    decide_found f (inr h) = no (degree_nonzero f h)

    decide_zero : (f : Polynomial K) → Dec (f ≡ 0ᵖ)
    decide_zero f = ∥∥₁_elim f.1 (Dec-prop ((polynomials K).is_set f 0ᵖ)) (λ x. decide_found f (find x.0 f.0 x.1))

    degree_found : (f : Polynomial K) → f ≢ 0ᵖ → Below K 0 f.0 ⊎ HasDegree f.0 → HasDegree f.0
    degree_found f n (inl z) = absurd (n (zero_of_below K f z))
    degree_found f n (inr h) = h

    pub degree : (f : Polynomial K) → f ≢ 0ᵖ → HasDegree f.0
    degree f n = ∥∥₁_elim f.1 (has_degree_proposition f.0) (λ x. degree_found f n (find x.0 f.0 x.1))

    pub monic_degree : (d : ℕ) (f : Series K) → Monic K d f → Degree d f
    monic_degree d f M = record { below = M.below; lead = λ z. D.one_nonzero (sym M.lead ∙ z) }

    -- the degree of a product is the sum of the degrees
    pub degree_times : (d e : ℕ) (f g : Series K) → Degree d f → Degree e g → Degree (d + e) ((series K).times f g)
    degree_times d e f g h k = record {
      below = λ i l. times_below K i (suc d) (suc e) f g h.below k.below (omega arith);
      lead = rw (times_top K d e f g h.below k.below) (D.nonzero_times (f d) (g e) h.lead k.lead);
    }

    product_nonzero : (f g : Polynomial K) → HasDegree f.0 → HasDegree g.0 → f *ᵖ g ≢ 0ᵖ
    product_nonzero f g (d, h) (e, k) = degree_nonzero (f *ᵖ g) (d + e, rw times_series (degree_times d e f.0 g.0 h k))

    one_nonzero_at : 1ᵖ.0 0 ≢ 𝟘
    unfolding constant cons
    one_nonzero_at = rw one_series D.one_nonzero

    pub polynomials_over_domain : Domain (polynomials K)
    polynomials_over_domain = record {
      decide = decide_zero;
      nonzero_times = λ f g hf hg. product_nonzero f g (degree f hf) (degree g hg);
      one_nonzero = nonzero_at 1ᵖ 0 one_nonzero_at;
    }
