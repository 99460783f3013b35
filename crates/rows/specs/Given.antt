-- Tables and opening cash that are given whole, as a list's are: judged as the records of set-up would be (Numbers; Refusal numbers, 4 and 5).
use Rattle.std.specs.Prelude.{ℕ, Bool, ◌&&◌, leb, ltb}
use Rattle.terms.specs.Ranges.{range_of, ◌∈◌}
use Rattle.terms.specs.declared.measure.Measure.TheVariants.{OpeningCash}
use Rattle.terms.specs.declared.refusal.Refusal.TheVariants.{OutOfRange, OutOfPlace}
use Rattle.terms.specs.Listed.{every}
use Rattle.account.specs.Rows.{contract, underlying}
use Rattle.account.specs.Sound.{contract_allowed, underlying_allowed}
use Rattle.terms.specs.Verdicts.{◌else◌then◌, accept}
use Rattle.terms.specs.Verdicts.{Verdict}
use Rattle.account.specs.declared.tables.Tables.{Tables}

-- "up to 8 underlyings, 64 contracts", and the values of each in their ranges; rows past m and n are no part of the tables (Numbers)
abbrev pub tables_allowed : Tables → Bool
tables_allowed t =
    leb t.m 8 && leb t.n 64 && every t.m (λ u. underlying_allowed (underlying t u)) && every t.n (λ c. contract_allowed t.m (contract t c))

-- "an opening with no contract yet" is 5, and 5 stands before 4 (Refusal numbers)
unfoldable pub list_verdict : Tables → ℕ → Verdict
list_verdict t cash =
    ltb 0 t.n else OutOfPlace then
    tables_allowed t && (cash ∈ range_of OpeningCash) else OutOfRange then
    accept
