-- The payloads of a certificate that is laid out, each by its name.
use Rattle.std.specs.Prelude.{◌≡◌, T, length}
use Rattle.std.proofs.Math.Path.{refl}
use Prim.Native.Nat.{ℕ, zero, suc, ◌*◌, ◌≤◌, ◌<◌}
use Rattle.std.proofs.Common.{arith, lit<, lit≤}
use Rattle.forms.specs.Numbers.{prime, order_limit}
use Rattle.forms.specs.Certificate.{Certificate, payload, size}
use Rattle.forms.specs.Words.{Residues, LaidOut}
use Rattle.forms.proofs.Records.{ten_cases}

-- a laid out certificate from its nine payloads, and back
pub laid_out : (c : Certificate) → 1 ≤ c.n → c.n ≤ order_limit → T (prime c.p)
    → Residues c.p (c.n * c.n) c.MA → Residues c.p (c.n * suc c.n) c.DF
    → Residues c.p (c.n * c.n * c.n) c.PL → Residues c.p (c.n * c.n * c.n) c.PI
    → Residues c.p (c.n * c.n * c.n) c.QR → Residues c.p (c.n * c.n * c.n) c.QI
    → Residues c.p (c.n * c.n) c.FB → Residues c.p (c.n * c.n) c.TB → Residues c.p (c.n * c.n) c.TI → LaidOut c
unfolding payload size
laid_out c low high prime_p A D P P' Q Q' F T' TI = record {
  low = low;
  high = high;
  prime_p = prime_p;
  residues = λ k l m. ten_cases (λ i. 1 ≤ i → Residues c.p (size c.n i) (payload c i)) (λ x. absurd (omega arith)) (λ x. A) (λ x. D) (λ x. P) (λ x. P') (λ x. Q) (λ x. Q') (λ x. F) (λ x. T') (λ x. TI) k m l;
}

module _ (c : Certificate) (h : LaidOut c) where
  pub MA_residues : Residues c.p (c.n * c.n) c.MA
  unfolding payload size
  MA_residues = h.residues 1 (lit≤ tt) (lit< tt)

  pub DF_residues : Residues c.p (c.n * suc c.n) c.DF
  unfolding payload size
  DF_residues = h.residues 2 (lit≤ tt) (lit< tt)

  pub PL_residues : Residues c.p (c.n * c.n * c.n) c.PL
  unfolding payload size
  PL_residues = h.residues 3 (lit≤ tt) (lit< tt)

  pub PI_residues : Residues c.p (c.n * c.n * c.n) c.PI
  unfolding payload size
  PI_residues = h.residues 4 (lit≤ tt) (lit< tt)

  pub QR_residues : Residues c.p (c.n * c.n * c.n) c.QR
  unfolding payload size
  QR_residues = h.residues 5 (lit≤ tt) (lit< tt)

  pub QI_residues : Residues c.p (c.n * c.n * c.n) c.QI
  unfolding payload size
  QI_residues = h.residues 6 (lit≤ tt) (lit< tt)

  pub FB_residues : Residues c.p (c.n * c.n) c.FB
  unfolding payload size
  FB_residues = h.residues 7 (lit≤ tt) (lit< tt)

  pub TB_residues : Residues c.p (c.n * c.n) c.TB
  unfolding payload size
  TB_residues = h.residues 8 (lit≤ tt) (lit< tt)

  pub TI_residues : Residues c.p (c.n * c.n) c.TI
  unfolding payload size
  TI_residues = h.residues 9 (lit≤ tt) (lit< tt)

  pub payload_length : (k : ℕ) → k < 10 → length (payload c k) ≡ size c.n k
  unfolding payload size
  payload_length zero l = refl
  payload_length (suc k) l = (h.residues (suc k) (omega arith) l).many
