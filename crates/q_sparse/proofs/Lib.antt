pub mod SparseRows
