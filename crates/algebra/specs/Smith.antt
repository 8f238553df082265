-- The Smith form of a matrix over a Bezout domain is unique up to units: two of them divide each other, entry by entry.
use Rattle.std.specs.Prelude.{◌≡◌, ◌≢◌, ℕ, zero, suc, ◌≤◌, ◌<◌}
use Rattle.std.proofs.Math.Path.{refl, sym, ap, fun_ext}
use Rattle.std.proofs.Common.{◌∙◌, ap₂, arith}
use Rattle.std.proofs.Math.Decide.{ℕ_discrete, dec_lt}
use Rattle.algebra.specs.Choice.{put, put_same, put_other}
use Rattle.algebra.specs.Ring.{Ring, zero_plus, times_associative, times_left_commutative, one_times, times_one, zero_times}
use Rattle.algebra.specs.Solver.{◌:*◌, solve₃, solve₄}
use Rattle.algebra.specs.Sum.{sum, sum_nil, sum_suc, sum_equal, sum_times_left, sum_times_right, sum_swap, delta, sum_of_delta}
use Rattle.algebra.specs.Domain.{Bezout, BezoutDomain, cancel_zero}
use Rattle.algebra.specs.Divides.{Divides, divides_zero, divides_times, divides_sum, divides_equal}
use Rattle.algebra.specs.Matrix.{Matrix, Within, identity_inside, product, product_at, product_within, product_associative}
use Rattle.algebra.specs.Inverse.{Inverse, inverse_of_product, inverse_symmetric, cancel_left}
use Rattle.algebra.specs.Shapes.{diagonal, product_diagonal, diagonal_product}
use Rattle.algebra.specs.Kernel.{kernel}

module _ {R : Type 0} (K : Ring R) (n : ℕ) where
  abbrev ◌·◌ : Matrix K → Matrix K → Matrix K
  ◌·◌ = product K n

  infixl 70 ◌·◌
  -- P G Q is diagonal with entries d, each of which divides those behind it
  pub record SmithForm (G : Matrix K) (d : ℕ → R) : Type 0 where
    pub P : Matrix K
    pub PI : Matrix K
    pub Q : Matrix K
    pub QI : Matrix K
    pub P_inverse : Inverse K n P PI
    pub Q_inverse : Inverse K n Q QI
    pub is : P · (G · Q) ≡ diagonal K n d
    pub chain : (i j : ℕ) → i ≤ j → j < n → Divides K (d i) (d j)

  -- G C = C H gives G the Smith forms of H
  pub smith_similar : (G H C CI : Matrix K) (d : ℕ → R) → Within K n G → Within K n H → Inverse K n C CI → G · C ≡ C · H → SmithForm H d → SmithForm G d
  smith_similar G H C CI d g h c e s = record {
    P = s.P · CI;
    PI = C · s.PI;
    Q = C · s.Q;
    QI = s.QI · CI;
    P_inverse = inverse_of_product K n s.P s.PI CI C s.P_inverse (inverse_symmetric K n C CI c);
    Q_inverse = inverse_of_product K n C CI s.Q s.QI c s.Q_inverse;
    is = product_associative K n s.P CI (G · (C · s.Q))
        ∙ ap (λ x. s.P · x) (
        ap (λ x. CI · x) (sym (product_associative K n G C s.Q) ∙ ap (λ x. x · s.Q) e ∙ product_associative K n C H s.Q)
        ∙ cancel_left K n CI C (H · s.Q) (product_within K n H s.Q h s.Q_inverse.within) c.left)
        ∙ s.is;
    chain = s.chain;
  }

module _ {R : Type 0} (K : Ring R) (B : BezoutDomain K) where
  open K use {plus as ◌⊕◌, times as ◌⊗◌, minus as ⊖◌, zero as 𝟘, one as 𝟙}

  infixl 60 ◌⊕◌
  infixl 70 ◌⊗◌
  -- a vector as a factor times a vector with a combination equal to one
  record Primitive (n : ℕ) (v : ℕ → R) : Type 0 where
    factor : R
    reduced : ℕ → R
    by : ℕ → R
    is : (j : ℕ) → j < n → v j ≡ factor ⊗ reduced j
    one : sum K (λ j. by j ⊗ reduced j) n ≡ 𝟙

  primitive_step : (n : ℕ) (v : ℕ → R) (p : Primitive n v) → Bezout K p.factor (v n) → Primitive (suc n) v
  primitive_step n v p b = record {
    factor = b.common;
    reduced = put n b.right (λ j. b.left ⊗ p.reduced j);
    by = put n b.of_right (λ j. b.of_left ⊗ p.by j);
    is = λ j l. at j l (ℕ_discrete j n);
    one = sum_suc K _ n ∙ ap₂ ◌⊕◌ (
        sum_equal K _ (λ j. b.of_left ⊗ b.left ⊗ (p.by j ⊗ p.reduced j)) n (λ j l.
        ap₂ ◌⊗◌ (put_other n b.of_right (λ j. b.of_left ⊗ p.by j) j (omega arith)) (put_other n b.right (λ j. b.left ⊗ p.reduced j) j (omega arith))
        ∙ solve₄ K (λ a b c d. (a :* c) :* (b :* d)) (λ a b c d. a :* b :* (c :* d)) refl b.of_left b.left (p.by j) (p.reduced j))
        ∙ sum_times_left K _ _ n ∙ ap (λ x. b.of_left ⊗ b.left ⊗ x) p.one ∙ times_one K _)
        (ap₂ ◌⊗◌ (put_same n b.of_right _) (put_same n b.right _)) ∙ b.coprime;
  }
    where
      at : (j : ℕ) → j < suc n → Dec (j ≡ n) → v j ≡ b.common ⊗ put n b.right (λ j. b.left ⊗ p.reduced j) j
      at j l (yes e) = rw (e, put_same) b.right_is
      at j l (no h) = rw (put_other n b.right (λ j. b.left ⊗ p.reduced j) j h) (p.is j (omega arith) ∙ ap (λ x. x ⊗ p.reduced j) b.left_is ∙ times_associative K _ _ _)

  primitive : (n : ℕ) (v : ℕ → R) → Primitive (suc n) v
  primitive zero v = record {
    factor = v 0;
    reduced = λ j. 𝟙;
    by = λ j. 𝟙;
    is = λ j l. (let e : j ≡ 0 = omega arith in rw e (sym (times_one K (v 0))));
    one = sum_suc K _ 0 ∙ simp (sum_nil, zero_plus, one_times);
  }
  primitive (suc n) v = primitive_step (suc n) v (primitive n v) (B.bezout _ _)

  -- G D = E H with G invertible: each entry of E divides that of D
  module _ (n : ℕ) (G GI H : Matrix K) (d e : ℕ → R) (inverse : Inverse K n G GI)
      (equal : (i j : ℕ) → i < n → j < n → G i j ⊗ d j ≡ e i ⊗ H i j)
      (d_chain : (i j : ℕ) → i ≤ j → j < n → Divides K (d i) (d j))
      (e_chain : (i j : ℕ) → i ≤ j → j < n → Divides K (e i) (e j)) where
    -- e k divides G i j d k where j ≤ k ≤ i
    corner : (i j k : ℕ) → j ≤ k → k ≤ i → i < n → Divides K (e k) (G i j ⊗ d k)
    corner i j k a b c =
        let D = d_chain j k a (omega arith) in
        let p : G i j ⊗ d k ≡ H i j ⊗ D.by ⊗ e i =
        ap (λ x. G i j ⊗ x) D.is ∙ sym (times_associative K _ _ _) ∙ ap (λ x. x ⊗ D.by) (equal i j c (omega arith))
        ∙ solve₃ K (λ a b c. a :* b :* c) (λ a b c. b :* c :* a) refl (e i) (H i j) D.by in
        divides_equal K (e k) _ _ (sym p) (divides_times K (e k) (e i) (H i j ⊗ D.by) (e_chain k i b c))

    -- v, supported on the first k + 1 places, is killed by the rows of G above k
    module _ (k : ℕ) (k<n : k < n) (v : ℕ → R) (killed : (i : ℕ) → i < k → sum K (λ j. G i j ⊗ v j) (suc k) ≡ 𝟘) where
      image : ℕ → R
      image i = sum K (λ j. G i j ⊗ v j) (suc k)

      divides_image : (i : ℕ) → i < n → Divides K (e k) (image i ⊗ d k)
      unfolding image
      divides_image i l = elim (dec_lt i k) [
        | yes h ↦ divides_equal K (e k) 𝟘 _ (sym (ap (λ x. x ⊗ d k) (killed i h) ∙ zero_times K (d k))) (divides_zero K (e k))
        | no h ↦ divides_equal K (e k) _ _ (sum_times_right K (λ j. G i j ⊗ v j) (d k) (suc k)) (divides_sum K (e k) _ (suc k) (λ j m.
            divides_equal K (e k) _ _ (solve₃ K (λ a b c. b :* (a :* c)) (λ a b c. a :* b :* c) refl (G i j) (v j) (d k))
            (divides_times K (e k) _ (v j) (corner i j k (omega arith) (omega arith) l))))
      ]

      -- v = G⁻¹ (G v)
      v_is : (j : ℕ) → j < suc k → v j ≡ sum K (λ i. GI j i ⊗ image i) n
      unfolding image
      v_is j l = sym (
          ap (λ f. sum K f n) (fun_ext (λ i. sym (sum_times_left K (GI j i) _ (suc k))))
          ∙ sum_swap K (λ i m. GI j i ⊗ (G i m ⊗ v m)) n (suc k)
          ∙ sum_equal K _ (λ m. delta K j m ⊗ v m) (suc k) (λ m h.
          ap (λ f. sum K f n) (fun_ext (λ i. sym (times_associative K (GI j i) (G i m) (v m))))
          ∙ sum_times_right K _ (v m) n
          ∙ ap (λ x. x ⊗ v m) (sym (product_at K n GI G j m) ∙ ap (λ (M : Matrix K). M j m) inverse.left ∙ identity_inside K n j m (omega arith)))
          ∙ sum_of_delta K j v (suc k) l)

      divides_v : (j : ℕ) → j < suc k → Divides K (e k) (v j ⊗ d k)
      divides_v j l = divides_equal K (e k) _ _ (sum_times_right K _ (d k) n ∙ ap (λ x. x ⊗ d k) (sym (v_is j l)))
          (divides_sum K (e k) _ n (λ i m. divides_equal K (e k) _ _ (sym (times_associative K _ _ _)) (divides_times K (e k) _ (GI j i) (divides_image i m))))

      divides_d : (u : ℕ → R) → sum K (λ j. u j ⊗ v j) (suc k) ≡ 𝟙 → Divides K (e k) (d k)
      divides_d u one = divides_equal K (e k) _ _ (sum_times_right K _ (d k) (suc k) ∙ ap (λ x. x ⊗ d k) one ∙ one_times K (d k))
          (divides_sum K (e k) _ (suc k) (λ j l. divides_equal K (e k) _ _ (sym (times_associative K _ _ _)) (divides_times K (e k) _ (u j) (divides_v j l))))

    diagonal_divides : (k : ℕ) → k < n → Divides K (e k) (d k)
    diagonal_divides k l =
        let N = kernel K B.domain k (suc k) G (omega arith) in
        let W = primitive k N.vector in
        let f : W.factor ≢ 𝟘 = λ z. N.nonzero (W.is N.place N.place_below ∙ ap (λ x. x ⊗ W.reduced N.place) z ∙ zero_times K _) in
        divides_d k l W.reduced (λ i h. cancel_zero K B.domain W.factor _ f (
        sym (sum_times_left K W.factor _ (suc k))
        ∙ sum_equal K _ _ (suc k) (λ j m. times_left_commutative K _ _ _ ∙ ap (λ x. G i j ⊗ x) (sym (W.is j m)))
        ∙ N.solves i h)) W.by W.one

  -- two Smith forms of one matrix
  pub smith_divides : (n : ℕ) (A : Matrix K) (d e : ℕ → R) → Within K n A → SmithForm K n A d → SmithForm K n A e → (k : ℕ) → k < n → Divides K (e k) (d k)
  smith_divides n A d e a s t =
      let G : Matrix K = product K n t.P s.PI in
      let H : Matrix K = product K n t.QI s.Q in
      let middle : Matrix K = product K n t.P (product K n A s.Q) in
      let AQ : Within K n (product K n A s.Q) = product_within K n A s.Q a s.Q_inverse.within in
      let left : product K n G (diagonal K n d) ≡ middle =
      ap (product K n G) (sym s.is) ∙ product_associative K n t.P s.PI _
      ∙ ap (product K n t.P) (cancel_left K n s.PI s.P _ AQ s.P_inverse.left) in
      let right : product K n (diagonal K n e) H ≡ middle =
      ap (λ x. product K n x H) (sym t.is) ∙ product_associative K n t.P _ H
      ∙ ap (product K n t.P) (product_associative K n A t.Q H ∙ ap (product K n A) (cancel_left K n t.Q t.QI s.Q s.Q_inverse.within t.Q_inverse.right)) in
      diagonal_divides n G (product K n s.P t.PI) H d e
      (inverse_of_product K n t.P t.PI s.PI s.P t.P_inverse (inverse_symmetric K n s.P s.PI s.P_inverse))
      (λ i j l g. sym (product_diagonal K n G d i j g) ∙ ap (λ (M : Matrix K). M i j) (left ∙ sym right) ∙ diagonal_product K n e H i j l)
      s.chain t.chain
