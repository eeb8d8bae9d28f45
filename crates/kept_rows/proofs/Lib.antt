pub mod CacheRows
