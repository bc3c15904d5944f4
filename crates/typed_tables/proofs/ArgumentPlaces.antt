-- The arguments of steps that differ only beyond the count. Assumes nothing.
use Rattle.std.proofs.Common.{◌≡◌, ℕ, zero, suc, ◌≤◌, min, List, [], ◌∷◌, take, sym, refl, ap, ◌∙◌, ap₂, arith}
use Rattle.form.specs.declared.steps.Step.{Step}
use Rattle.form.specs.Meanings.{SameStep}
use Rattle.typed_tables.specs.Atoms.{front}
use Rattle.typed_tables.specs.Engine.{arguments_of}

-- the first elements go by no more than themselves
front-by-take : {X : Type 0} (d : X) (k n : ℕ) (xs : List X) → k ≤ n → front k d (take n xs) ≡ front k d xs
front-by-take d zero n xs h = refl
front-by-take d (suc k) zero xs h = absurd (omega arith)
front-by-take d (suc k) (suc n) [] h = refl
front-by-take d (suc k) (suc n) (x ∷ xs) h = ap (λ ys. x ∷ ys) (front-by-take d k n xs (omega arith))

pub same-arguments : (s u : Step) → SameStep s u → arguments_of s ≡ arguments_of u
same-arguments s u same =
    sym (front-by-take 64 (min s.count 4) s.count s.args (omega arith)) ∙
    ap₂ (λ (n : ℕ) (xs : List ℕ). front (min n 4) 64 xs) same.same_count same.same_args ∙
    front-by-take 64 (min u.count 4) u.count u.args (omega arith)
