-- What a covered open receives joins covered premium, and available is made of cash: so it pays for no order the same day (000, article 11).
use mathlib.Core.Path.{◌≡◌, refl}
use Prim.Native.Nat.{◌+◌}
use Rattle.terms.specs.declared.kind.OrderKind.TheVariants.{CoveredOpen}
use Rattle.entries.specs.declared.entry.Fill.{Fill}
use Rattle.account.specs.Fills.{paid, sheet_after}
use Rattle.account.specs.declared.judged.Named.{Named}

pub covered_received : (f : Named) (fill : Fill) → ((sheet_after f fill CoveredOpen).cash ≡ f.sheet.cash) × ((sheet_after f fill CoveredOpen).premium ≡ f.sheet.premium + paid f fill)
covered_received f fill = (refl, refl)
