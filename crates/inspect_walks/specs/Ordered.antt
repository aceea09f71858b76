-- What the rows of an agent are like, so that they can be searched.
use Rattle.std.specs.Prelude.{◌≡◌, ◌<◌, IsTrue}
use Rattle.std.specs.List.{All, AllPairs}
use Rattle.std.specs.declared.cmp.Ordering.TheVariants.{Less}
use Rattle.ov_types.specs.Keys.{low_key_cmp, row_key_cmp}
use Rattle.ov_types.specs.Prefix.{is_prefix}
use Rattle.ov_types.specs.declared.rows.AgentRows.{AgentRows}
use Rattle.packet_trace.specs.Circuits.{IsOfAUse}

-- each list ascends by its keys, circuits are those of uses, and routes have prefixes
pub record AreOrdered (rows : AgentRows) : Type 0 where
  pub labels : AllPairs (λ l m. l.0.0 < m.0.0) rows.labels
  pub circuits : All (λ e. IsOfAUse e.1) rows.labels
  pub lists : AllPairs (λ d e. low_key_cmp d.0 e.0 ≡ Less) rows.acls
  pub routes : AllPairs (λ q r. row_key_cmp q.0 r.0 ≡ Less) rows.routes
  pub prefixes : All (λ r. IsTrue (is_prefix r.0.1.addr r.0.1.len)) rows.routes
