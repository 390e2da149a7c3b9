-- Numbers and interval parts as slots: how their equality shows.
use Rattle.std.specs.Prelude.{◌≡◌, ◌↔◌, ℕ, ℤ, pos, ◌&&◌, nat_eq, IsTrue, refl}
use Rattle.std.specs.declared.cmp.Ordering.{Ordering}
use Rattle.std.specs.declared.cmp.Ordering.TheVariants.{Less, Equal, Greater}
use Rattle.std.specs.Ordering.{int_cmp, int_eq, is_eq}
use Rattle.std.proofs.Common.{ap, ◌∙◌}
use Rattle.std.proofs.lemmas.Bool.Decides.{Decides-eqb, Decides-int_eq, Decides-and, Decides-like, same_from_decides}
use Rattle.arrow_types.specs.Slot.{Boolean, Number}
use Rattle.arrow_types.specs.Relation.{related, eq, holds}

-- the relation of equality, by how two numbers compare
holds-eq : (o : Ordering) → holds eq o ≡ is_eq o
holds-eq Less = refl
holds-eq Equal = refl
holds-eq Greater = refl

-- signed numbers
pub equal_ints : (m n : ℤ) → related eq (Number m) (Number n) ≡ Boolean (int_eq m n)
equal_ints m n = ap Boolean (holds-eq (int_cmp m n))

-- unsigned numbers
pub equal_nats : (m n : ℕ) → related eq (Number (pos m)) (Number (pos n)) ≡ Boolean (nat_eq m n)
equal_nats m n =
    let same = Decides-like (nat_eq m n) (λ e. ap pos e) (λ e. cc) (Decides-eqb m n) in
    equal_ints (pos m) (pos n) ∙ ap Boolean (same_from_decides (int_eq (pos m) (pos n)) (nat_eq m n) (Decides-int_eq (pos m) (pos n)) same)

-- the three parts of an interval
pub equal_triples : (x y : ℤ × ℤ × ℤ) → IsTrue (int_eq x.0 y.0 && (int_eq x.1 y.1 && int_eq x.2 y.2)) ↔ (x ≡ y)
equal_triples x y =
    let last = Decides-and (int_eq x.1 y.1) (int_eq x.2 y.2) (Decides-int_eq x.1 y.1) (Decides-int_eq x.2 y.2) in
    let all = Decides-and (int_eq x.0 y.0) (int_eq x.1 y.1 && int_eq x.2 y.2) (Decides-int_eq x.0 y.0) last in
    Decides-like (int_eq x.0 y.0 && (int_eq x.1 y.1 && int_eq x.2 y.2)) (λ e i. (e.0 i, e.1.0 i, e.1.1 i)) (λ e. (ap (λ v. v.0) e, (ap (λ v. v.1) e, ap (λ v. v.2) e))) all
