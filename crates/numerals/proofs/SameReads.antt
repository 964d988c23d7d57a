-- What two readings that are the same have: the same value, and the same cursor after it.
use Rattle.std.proofs.Common.{◌≡◌, Some, ap}
use Rattle.std.proofs.lemmas.Option.{same_Some}
use Rattle.numerals.specs.declared.Read.{Read}

module _ {A : Type 0} {r r' : Read A} (e : Some r ≡ Some r') where
  pub same-value : r.value ≡ r'.value
  same-value = ap (λ (x : Read A). x.value) (same_Some r r' e)

  pub same-next : r.next ≡ r'.next
  same-next = ap (λ (x : Read A). x.next) (same_Some r r' e)
