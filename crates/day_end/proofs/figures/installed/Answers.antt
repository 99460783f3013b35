-- `installed` meets its contract: the rows that the tables have take their prices, and the rows past them stay.
use Rattle.std.proofs.Common.{◌≡◌, ℕ, ◌<◌, List, ◌++◌, length, get_or, take, drop}
use Rattle.entries.specs.declared.entry.Contract.{Contract}
use Rattle.entries.specs.declared.entry.Figures.{Figures}
use Rattle.entries.specs.declared.entry.Underlying.{Underlying}
use Rattle.account.specs.DayEnd.{close_of, closed, figures_installed, settled, settlement_of}
use Rattle.account.specs.Rows.{no_contract, no_underlying}
use Rattle.account.specs.Sound.{SoundTables}
use Rattle.account.specs.declared.tables.Tables.{Tables}
use Rattle.day_end.proofs.Listing.{first_changed}
use Rattle.day_end.proofs.figures.installed.Goals as goal

priced : (t : Tables) (f : Figures) → SoundTables t → (us : List Underlying) (cs : List Contract) → length us ≡ length (take t.m t.underlyings) → length cs ≡ length (take t.n t.contracts)
    → ((i : ℕ) (d : Underlying) → i < length (take t.m t.underlyings) → get_or us i d ≡ closed (get_or (take t.m t.underlyings) i d) (close_of f i))
    → ((i : ℕ) (d : Contract) → i < length (take t.n t.contracts) → get_or cs i d ≡ settled (get_or (take t.n t.contracts) i d) (settlement_of f i))
    → record { underlyings = us ++ drop t.m t.underlyings; m = t.m; contracts = cs ++ drop t.n t.contracts; n = t.n } ≡ figures_installed t f
unfolding figures_installed
priced t f sound us cs many_us many_cs closes settlements =
    λ i.
    record {
      underlyings = first_changed 8 no_underlying (λ u row. closed row (close_of f u)) t.underlyings us t.m sound.underlying_rows sound.few_underlyings many_us closes i;
      m = t.m;
      contracts = first_changed 64 no_contract (λ c row. settled row (settlement_of f c)) t.contracts cs t.n sound.contract_rows sound.few_contracts many_cs settlements i;
      n = t.n;
    }

pub returns : goal.returns
returns c = priced c.args.tables c.args.figures c.requires _ _ c.set_prices-2.auto.rows c.set_prices.auto.rows c.set_prices-2.ensures c.set_prices.ensures
