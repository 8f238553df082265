-- Sizes and offsets are small for every byte n.
use Rattle.std.specs.Prelude.{◌≡◌, refl, ℕ, zero, suc, ◌+◌, ◌*◌, ◌≤◌, ◌<◌}
use Rattle.std.proofs.Common.{sym, ◌∙◌, ap, add_assoc, mul-le-mul, mul-suc, add-one, arith}
use Rattle.forms.specs.Numbers.{total}
use Rattle.forms.specs.Certificate.{size, offset}
use Rattle.forms.proofs.Records.{ten_cases, offset_suc}

pub square_small : (n : ℕ) → n < 256 → n * n ≤ 65025
square_small n l = let h : n ≤ 255 = omega arith in mul-le-mul h h

pub cube_small : (n : ℕ) → n < 256 → n * n * n ≤ 16581375
cube_small n l = let h : n ≤ 255 = omega arith in mul-le-mul (square_small n l) h

pub size_small : (n k : ℕ) → n < 256 → k < 10 → size n k ≤ 16581375
unfolding size
size_small n k l =
    let square = square_small n l in let cube = cube_small n l in let e = mul-suc n n in
    ten_cases (λ k. size n k ≤ 16581375) (omega arith) (omega arith) (omega arith) cube cube cube cube (omega arith) (omega arith) (omega arith) k

pub offset_zero : (n : ℕ) → 0 ≡ offset n 0
unfolding offset total
offset_zero n = refl

pub offset_next : (n k : ℕ) → offset n (k + 1) ≡ offset n k + 4 + size n k
offset_next n k = ap (offset n) (add-one k) ∙ offset_suc n k ∙ sym (add_assoc (offset n k) 4 (size n k))

pub offset_small : (n k : ℕ) → n < 256 → k ≤ 10 → offset n k ≤ k * 16581379
offset_small n zero l h = let e = offset_zero n in omega arith
offset_small n (suc k) l h = let a = offset_small n k l (omega arith) in let b = size_small n k l (omega arith) in let e = offset_suc n k in omega arith
